use Rattle.std.proofs.Common.{◌≡◌, sym, subst, None}
use Rattle.column_view.specs.ViewFaults.{view_fault}
use Rattle.column_blocks.specs.Blocks.{buffers_of}
use Rattle.column_binview.specs.Builders.{ViewBuilder}
use Rattle.column_binview.proofs.ChangesLemmas.{view_after}
use Rattle.column_binview.proofs.builder.MutableBinaryViewArray.set_view.Goals as goal

pub invariant_of-self : goal.invariant_of-self
invariant_of-self g c =
    let fine = subst (λ (b : ViewBuilder). view_fault g.K.ViewKind.IS_UTF8 c.args.view (buffers_of b.bytes.blocks) ≡ None) (sym c.self.view_is) c.requires.fine in
    view_after g.K.ViewKind.IS_UTF8 _ c.args.i c.args.view _ c.self.invariant fine c.set_view.ensures

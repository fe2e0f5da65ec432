use Rattle.std.proofs.Common.{◌≡◌, sym, subst, None}
use Rattle.column_base.specs.Utf8.{CanHold}
use Rattle.column_view.specs.ViewFaults.{view_fault}
use Rattle.column_view.proofs.FaultsLemmas.{held}
use Rattle.column_blocks.specs.Blocks.{buffers_of}
use Rattle.column_binview.specs.Builders.{ViewBuilder}
use Rattle.column_binview.proofs.builder.MutableBinaryViewArray.content_of.Goals as goal

pub returns-clause-held : goal.returns-clause-held
returns-clause-held g c =
    let text = g.K.ViewKind.IS_UTF8 in
    let fine = subst (λ (b : ViewBuilder). view_fault text c.args.view.now (buffers_of b.bytes.blocks) ≡ None) (sym c.self.view_is) c.requires in
    subst (CanHold text) (sym c.value_from_view_unchecked.ensures) (held text c.args.view.now (buffers_of c.self.inside.blocks) fine)

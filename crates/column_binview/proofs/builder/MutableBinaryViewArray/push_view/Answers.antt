use Rattle.std.proofs.Common.{◌≡◌, sym, subst, None}
use Rattle.column_view.specs.ViewFaults.{view_fault}
use Rattle.column_blocks.specs.Sources.{source_at}
use Rattle.column_binview.specs.Builders.{ViewBuilder}
use Rattle.column_binview.proofs.BuildersLemmas.{source_view_after}
use Rattle.column_binview.proofs.builder.MutableBinaryViewArray.push_view.Goals as goal

pub invariant_of-self-2 : goal.invariant_of-self-2
invariant_of-self-2 g c =
    let fine = subst (λ (b : ViewBuilder). view_fault g.K.ViewKind.IS_UTF8 c.args.view (source_at b.bytes.taken c.args.source) ≡ None) (sym c.self.view_is) c.requires.fine in
    source_view_after g.K.ViewKind.IS_UTF8 _ c.args.view _ c.args.source _ _ _ c.self.invariant c.known.ensures fine c.in_ok-taken.ensures.answer.0 c.in_ok-taken.ensures.answer.1.0 c.in_ok-reserve.ensures.same c.in_ok-push.ensures.answer.1 c.in_ok-taken.ensures.answer.1.1

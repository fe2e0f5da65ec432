use Rattle.std.proofs.Common.{◌≡◌, ◌∙◌, ap, sym, subst, None}
use Rattle.column_base.specs.Utf8.{CanHold}
use Rattle.column_view.specs.Views.{view_content}
use Rattle.column_view.specs.ViewFaults.{view_fault}
use Rattle.column_view.proofs.FaultsLemmas.{held}
use Rattle.column_blocks.specs.Sources.{source_at}
use Rattle.column_binview.specs.Builders.{ViewBuilder}
use Rattle.column_binview.proofs.BuildersLemmas.{value_after}
use Rattle.column_binview.proofs.builder.MutableBinaryViewArray.push_copied.Goals as goal

pub invariant_of-self-2 : goal.invariant_of-self-2
invariant_of-self-2 g c =
    let text = g.K.ViewKind.IS_UTF8 in
    let fine = subst (λ (b : ViewBuilder). view_fault text c.args.view (source_at b.bytes.taken c.args.source) ≡ None) (sym c.self.view_is) c.requires.fine in
    let content = c.get_slice_unchecked.ensures ∙ ap (view_content c.args.view) c.get.ensures in
    let holds = subst (CanHold text) (sym content) (held text c.args.view (source_at c.self.inside.sources c.args.source) fine) in
    value_after text _ c.get_slice_unchecked.result.now _ _ _ _ c.self.invariant holds c.in_ok-view.ensures.answer.0 c.in_ok-view.ensures.answer.1.0 c.in_ok-reserve.ensures.same c.in_ok-push.ensures.answer.1 c.in_ok-view.ensures.answer.1.1

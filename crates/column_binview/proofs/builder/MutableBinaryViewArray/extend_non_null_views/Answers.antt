use Rattle.std.proofs.Common.{◌∙◌, ap}
use Rattle.column_base.proofs.PushesLemmas.{shown_more}
use Rattle.column_binview.specs.Builders.{ViewBuilder}
use Rattle.column_binview.specs.SourceViews.{view_growth}
use Rattle.column_binview.proofs.SourceViewsLemmas.{fine_view_given, sources-taken}
use Rattle.column_binview.proofs.builder.MutableBinaryViewArray.extend_non_null_views.Goals as goal

pub push_view-requires-clause-fine : goal.push_view-requires-clause-fine
push_view-requires-clause-fine g c =
    fine_view_given g.K.ViewKind.IS_UTF8 g.I.Iterator.next_gives c.args.iterator _ c.loop-view.view-iterator _ c.args.self.now.bytes.taken c.loop-view.self.bytes.taken c.args.source c.loop-view.yielded c.in-Some.view
    c.requires.fine c.loop-view.invariant.same c.into_iter-view-iterator.ensures.into_iter_gives c.loop-view.yielded_by c.in-Some.ensures.steps

pub loop-view-preserved : goal.loop-view-preserved
loop-view-preserved g c = record {
  stands = shown_more (view_growth c.args.source) (λ view. view) _ _ _ c.loop-view.yielded c.in-Some.view c.loop-view.invariant.stands c.in_ok-push_view.ensures.answer.0 c.in_ok-push_view.ensures.answer.1;
  same = ap (λ (b : ViewBuilder). b.bytes.taken.sources) c.in_ok-push_view.ensures.answer.1 ∙ sources-taken c.loop-view.self.bytes c.in-Some.view c.args.source ∙ c.loop-view.invariant.same;
}

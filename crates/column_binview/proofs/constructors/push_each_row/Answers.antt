use Rattle.std.proofs.Common.{◌∙◌, ap, subst, Err}
use Rattle.std.proofs.lemmas.Result.{err_from_is_err_and}
use Rattle.std.specs.Prelude.{option_map}
use Rattle.std.specs.Iterator.{Yields}
use Rattle.column_base.proofs.PushesLemmas.{shown_more, shown_up_to}
use Rattle.column_binview.specs.Builders.{row_growth}
use Rattle.column_binview.proofs.constructors.push_each_row.Goals as goal

pub loop-row-preserved : goal.loop-row-preserved
loop-row-preserved g c =
    shown_more row_growth (option_map g.K.ViewType.item_bytes) _ _ _ c.loop-row.yielded c.in-Some.row c.loop-row.invariant c.in_ok-push.ensures.answer.0 c.in_ok-push.ensures.answer.1

pub returns-in_err-push : goal.returns-in_err-push
returns-in_err-push g c =
    let is = err_from_is_err_and c.from_residual.result c.from_residual.ensures.1 in
    let given = subst (λ s. Yields g.I.Iterator.next_gives s c.loop-row.yielded c.loop-row.row-iterator) c.into_iter-row-iterator.ensures.into_iter_gives c.loop-row.yielded_by in
    let stands = shown_up_to row_growth (option_map g.K.ViewType.item_bytes) _ _ _ _ _ c.loop-row.yielded c.in-Some.row _ c.loop-row.invariant (_, (_, given, c.in-Some.ensures.steps)) c.in_err-push.ensures.unchanged c.in_err-push.ensures.answer in
    rw (is.1 ∙ ap Err is.2) (c.in-Some.row, stands.0, stands.1)

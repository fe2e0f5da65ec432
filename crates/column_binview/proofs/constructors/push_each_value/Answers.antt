use Rattle.std.proofs.Common.{◌∙◌, ap, subst, Err, Some}
use Rattle.std.proofs.lemmas.Result.{err_from_is_err_and}
use Rattle.std.specs.Iterator.{Yields}
use Rattle.column_base.proofs.PushesLemmas.{shown_more, shown_up_to}
use Rattle.column_binview.specs.Builders.{row_growth}
use Rattle.column_binview.proofs.constructors.push_each_value.Goals as goal

pub loop-value-preserved : goal.loop-value-preserved
loop-value-preserved g c =
    shown_more row_growth (λ value. Some (g.K.ViewType.item_bytes value)) _ _ _ c.loop-value.yielded c.in-Some.value c.loop-value.invariant c.in_ok-push_value.ensures.answer.0 c.in_ok-push_value.ensures.answer.1

pub returns-in_err-push_value : goal.returns-in_err-push_value
returns-in_err-push_value g c =
    let is = err_from_is_err_and c.from_residual.result c.from_residual.ensures.1 in
    let given = subst (λ s. Yields g.I.Iterator.next_gives s c.loop-value.yielded c.loop-value.value-iterator) c.into_iter-value-iterator.ensures.into_iter_gives c.loop-value.yielded_by in
    let stands = shown_up_to row_growth (λ value. Some (g.K.ViewType.item_bytes value)) _ _ _ _ _ c.loop-value.yielded c.in-Some.value _ c.loop-value.invariant (_, (_, given, c.in-Some.ensures.steps)) c.in_err-push_value.ensures.unchanged c.in_err-push_value.ensures.answer in
    rw (is.1 ∙ ap Err is.2) (c.in-Some.value, stands.0, stands.1)

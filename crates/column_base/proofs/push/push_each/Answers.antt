use Rattle.std.proofs.Common.{◌∙◌, ap, subst, Err}
use Rattle.std.proofs.lemmas.Result.{err_from_is_err_and}
use Rattle.std.specs.Iterator.{Yields}
use Rattle.column_base.proofs.PushesLemmas.{shown_more, shown_up_to}
use Rattle.column_base.proofs.push.push_each.Goals as goal

pub loop-item-preserved : goal.loop-item-preserved
loop-item-preserved g c =
    shown_more g.B.Growing.growth g.B.TryPush.shown _ _ _ c.loop-item.yielded c.in-Some.item c.loop-item.invariant c.in_ok-try_push.ensures.answer.0 c.in_ok-try_push.ensures.answer.1

pub returns-in_err-try_push : goal.returns-in_err-try_push
returns-in_err-try_push g c =
    let is = err_from_is_err_and c.from_residual.result c.from_residual.ensures.1 in
    let given = subst (λ s. Yields g.I.Iterator.next_gives s c.loop-item.yielded c.loop-item.item-iterator) c.into_iter-item-iterator.ensures.into_iter_gives c.loop-item.yielded_by in
    let stands = shown_up_to g.B.Growing.growth g.B.TryPush.shown _ _ _ _ _ c.loop-item.yielded c.in-Some.item _ c.loop-item.invariant (_, (_, given, c.in-Some.ensures.steps)) c.in_err-try_push.ensures.unchanged c.in_err-try_push.ensures.answer in
    rw (is.1 ∙ ap Err is.2) (c.in-Some.item, stands.0, stands.1)

use Rattle.std.proofs.Common.{◌∙◌, ◌++◌, ◌∷◌, [], ap, sym, map}
use Rattle.std.specs.Prelude.{Ok}
use Rattle.std.proofs.lemmas.List.{map-append}
use Rattle.column_base.proofs.PushesLemmas.{shown_more, shown_up_to, given_good}
use Rattle.column_base.proofs.push.push_each_ok.Goals as goal

pub loop-item-preserved : goal.loop-item-preserved
loop-item-preserved g c =
    let before = c.loop-item.invariant in (
      before.0 ++ c.in-Ok.item ∷ [],
      ap (λ items. items ++ c.in-Some.item ∷ []) before.1 ∙ ap (λ item. map Ok before.0 ++ item ∷ []) c.in-Ok.is ∙ sym (map-append Ok before.0 (c.in-Ok.item ∷ [])),
      shown_more g.B.Growing.growth g.B.TryPush.shown _ _ _ before.0 c.in-Ok.item before.2 c.in_default.ensures.answer.0 c.in_default.ensures.answer.1,
    )

pub returns-in-Err-try_push : goal.returns-in-Err-try_push
returns-in-Err-try_push g c =
    let before = c.loop-item.invariant in
    let yielded = rw c.into_iter-item-iterator.ensures.into_iter_gives at c.loop-item.yielded_by in
    let given = given_good g.I.Iterator.next_gives _ _ _ _ before.0 _ c.in-Ok.item yielded before.1 c.in-Some.ensures.steps c.in-Ok.is in
    let stands = shown_up_to g.B.Growing.growth g.B.TryPush.shown _ _ _ _ _ before.0 c.in-Ok.item _ before.2 given c.in-Err-try_push.ensures.unchanged c.in-Err-try_push.ensures.answer in
    (c.in-Ok.item, stands.0, stands.1)

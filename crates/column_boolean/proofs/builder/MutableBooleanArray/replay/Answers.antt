use Rattle.std.proofs.Common.{refl, None}
use Rattle.std.proofs.lemmas.List.{take_all}
use Rattle.column_base.proofs.PushesLemmas.{answers_weaker}
use Rattle.column_boolean.proofs.OperationsLemmas.{replayed}
use Rattle.column_boolean.proofs.builder.MutableBooleanArray.replay.Goals as goal

pub returns : goal.returns
returns c =
    let all = take_all c.loop-operation.operation-index c.args.operations.now c.loop-operation-test.false in
    let is = rw all at c.loop-operation.invariant in
    answers_weaker c.freeze.result None None _ _ refl (λ array frozen. replayed c.args.operations.now c.loop-operation.builder.lists array c.known.ensures.sound is frozen) c.freeze.ensures

use Rattle.std.proofs.Common.{refl, None}
use Rattle.column_base.specs.DataTypes.{default_type}
use Rattle.column_base.proofs.PushesLemmas.{answers_weaker}
use Rattle.column_primitive.specs.Rows.{no_numbers}
use Rattle.column_primitive.proofs.OperationsLemmas.{replayed, replayed_more, taken_all}
use Rattle.column_primitive.proofs.builder.MutablePrimitiveArray.replay.Goals as goal

pub loop-operation-preserved : goal.loop-operation-preserved
loop-operation-preserved g c =
    replayed_more g.T.NativeType.zero_value (no_numbers (default_type g.T.NativeType.PRIMITIVE)) c.loop-operation.builder.array c.apply.new.self.array c.args.operations.now c.loop-operation.operation-index c.operation-item.result c.loop-operation-test.true c.operation-item.is c.loop-operation.invariant c.in_ok-apply.ensures.1

pub returns : goal.returns
returns g c =
    let all = taken_all c.args.operations.now c.loop-operation.operation-index c.loop-operation-test.false in
    let is = rw all at c.loop-operation.invariant in
    answers_weaker c.freeze.result None None _ _ refl (λ array frozen. replayed g.T.NativeType.le_bytes g.T.NativeType.zero_value (default_type g.T.NativeType.PRIMITIVE) c.args.operations.now c.loop-operation.builder.array array c.known.ensures.sound is frozen) c.freeze.ensures

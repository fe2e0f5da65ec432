use Rattle.std.proofs.Common.{◌≡◌, take}
use Rattle.column_base.specs.DataTypes.{default_type}
use Rattle.column_base.specs.Pushes.{grown}
use Rattle.column_primitive.specs.Rows.{no_numbers}
use Rattle.column_primitive.specs.Operations.{operation_growth}
use Rattle.column_primitive.proofs.builder.MutablePrimitiveArray.replay.Given as goal

abbrev pub invariant-loop-operation : goal.invariant-loop-operation
invariant-loop-operation g l = l.builder.array ≡ grown (operation_growth g.T.NativeType.zero_value) (no_numbers (default_type g.T.NativeType.PRIMITIVE)) (take l.operation-index l.operations)

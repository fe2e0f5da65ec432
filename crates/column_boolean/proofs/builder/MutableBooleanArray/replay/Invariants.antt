use Rattle.std.proofs.Common.{◌≡◌, take}
use Rattle.std.specs.List.{fold}
use Rattle.column_boolean.specs.Rows.{no_slots}
use Rattle.column_boolean.specs.Operations.{lists_after}
use Rattle.column_boolean.proofs.builder.MutableBooleanArray.replay.Given as goal

abbrev pub invariant-loop-operation : goal.invariant-loop-operation
invariant-loop-operation l = l.builder.lists ≡ fold lists_after no_slots (take l.operation-index l.operations)

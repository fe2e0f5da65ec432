use Rattle.std.proofs.Common.{◌≡◌, take, None}
use Rattle.column_base.specs.Pushes.{grown, growth_fault}
use Rattle.column_fixed.specs.Rows.{no_slots}
use Rattle.column_fixed.specs.Operations.{operation_growth}
use Rattle.column_fixed.proofs.builder.MutableFixedSizeBinaryArray.replay.Given as goal

abbrev pub invariant-loop-operation : goal.invariant-loop-operation
invariant-loop-operation l = record {
  fine : growth_fault operation_growth (no_slots l.size) (take l.operation-index l.operations) ≡ None;
  is : l.builder.lists ≡ grown operation_growth (no_slots l.size) (take l.operation-index l.operations);
}

use Rattle.std.proofs.Common.{◌≡◌, map, take, None}
use Rattle.column_base.specs.Pushes.{grown, growth_fault}
use Rattle.column_binary.specs.Rows.{no_slots}
use Rattle.column_binary.specs.Operations.{operation_growth}
use Rattle.column_utf8.specs.Operations.{on_bytes}
use Rattle.column_utf8.proofs.builder.MutableUtf8Array.replay.Given as goal

abbrev pub invariant-loop-operation : goal.invariant-loop-operation
invariant-loop-operation g l = record {
  fine : growth_fault (operation_growth None g.O.Offset.GREATEST) no_slots (map on_bytes (take l.operation-index l.operations)) ≡ None;
  is : l.builder.lists ≡ grown (operation_growth None g.O.Offset.GREATEST) no_slots (map on_bytes (take l.operation-index l.operations));
}

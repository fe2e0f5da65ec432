use Rattle.std.proofs.Common.{take}
use Rattle.std.specs.String.{string_bytes}
use Rattle.column_base.proofs.PushesLemmas.{Stands}
use Rattle.column_binview.specs.Builders.{no_slots}
use Rattle.column_binview.specs.Operations.{operation_growth}
use Rattle.column_binview.proofs.operations.MutablePlString.replay.Given as goal

abbrev pub invariant-loop-operation : goal.invariant-loop-operation
invariant-loop-operation l = Stands (operation_growth string_bytes) no_slots l.builder (take l.operation-index l.operations)

use Rattle.std.proofs.Common.{Some, map, take}
use Rattle.column_base.specs.Slots.{values_of}
use Rattle.column_base.proofs.PushesLemmas.{Stands}
use Rattle.column_binview.specs.Slots.{view_slots}
use Rattle.column_binview.specs.Builders.{no_slots, row_growth}
use Rattle.column_binview.proofs.gather.copied.Given as goal

abbrev pub invariant-loop-i : goal.invariant-loop-i
invariant-loop-i g l = Stands row_growth no_slots l.builder (map Some (take l.i (values_of (view_slots l.array))))

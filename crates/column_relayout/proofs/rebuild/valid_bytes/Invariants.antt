-- The bytes of null slots so far are taken off.
use Rattle.column_binary.specs.Slots.{offset_slots}
use Rattle.column_relayout.proofs.WrittenLemmas.{Counts}
use Rattle.column_relayout.proofs.rebuild.valid_bytes.Given as goal

abbrev pub invariant-loop-i : goal.invariant-loop-i
invariant-loop-i g l = Counts (offset_slots l.array) l.i l.bytes

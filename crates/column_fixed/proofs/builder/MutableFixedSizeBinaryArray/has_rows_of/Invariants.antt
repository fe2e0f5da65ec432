use Rattle.std.proofs.Common.{◌≡◌, ◌<◌, ℕ, true}
use Rattle.column_base.specs.Slots.{slot_at}
use Rattle.column_fixed.specs.Slots.{fixed_slots}
use Rattle.column_fixed.specs.Rows.{is_same_row}
use Rattle.column_fixed.proofs.builder.MutableFixedSizeBinaryArray.has_rows_of.Given as goal

abbrev pub invariant-loop-i : goal.invariant-loop-i
invariant-loop-i l = (k : ℕ) → k < l.i → is_same_row (slot_at (fixed_slots l.self.lists) k) (slot_at (fixed_slots l.other.lists) k) ≡ true

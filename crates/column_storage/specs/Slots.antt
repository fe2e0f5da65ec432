-- The slots of a column of any layout: its flags beside its values.
use Rattle.std.specs.Prelude.{ℕ, Bool, List, length, Option}
use Rattle.column_base.specs.Kinds.{Slot}
use Rattle.column_base.specs.Slots.{slots_by}
use Rattle.column_storage.specs.Bits.{flags_of}

-- Arrow columnar format, "Validity bitmaps": a slot of each value and its flag; where no flags are given, all slots
-- are valid.
unfoldable pub flagged_slots : Option (List Bool) → List (List ℕ) → List Slot
flagged_slots flags values = slots_by (flags_of (length values) flags) values

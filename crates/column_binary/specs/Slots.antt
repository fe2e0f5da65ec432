-- The lists of an array with offsets, the slots that they mean, and their faults.
use Rattle.std.specs.Prelude.{◌≡◌, ℕ, ◌+◌, ◌-◌, ℤ, pos, ◌≤ℤ◌, Bool, List, length, Option}
use Rattle.column_base.specs.declared.errors.Cause.{Cause}
use Rattle.column_base.specs.Answers.{◌or_else◌}
use Rattle.column_base.specs.Kinds.{Slot}
use Rattle.column_base.specs.Lists.{sublist}
use Rattle.column_storage.specs.Bits.{sliced_flags}
use Rattle.column_storage.specs.Slots.{flagged_slots}
use Rattle.column_storage.specs.Validity.{AreFlagsOf, flags_fault}
use Rattle.column_offset.specs.Offsets.{AreSoundOffsets, bounds_fault, last_of}
use Rattle.column_offset.specs.Text.{pieces}

-- Arrow columnar format, "Variable-size Binary Layout": the offsets, the value bytes, and the validity where one is
-- given.
pub record OffsetLists : Type 0 where
  pub offsets : List ℤ
  pub values : List ℕ
  pub flags : Option (List Bool)

abbrev pub offset_lists : List ℤ → List ℕ → Option (List Bool) → OffsetLists
offset_lists offsets values flags = record { offsets = offsets; values = values; flags = flags }

-- n slots have n + 1 offsets
abbrev pub slot_count : OffsetLists → ℕ
slot_count lists = length lists.offsets - 1

-- what the lists mean: each flag beside the bytes from an offset up to the next
unfoldable pub offset_slots : OffsetLists → List Slot
offset_slots lists = flagged_slots lists.flags (pieces lists.offsets lists.values)

-- the first fault of lists whose offsets are sound
abbrev pub array_fault : OffsetLists → Option Cause
array_fault lists = bounds_fault lists.offsets (length lists.values) or_else flags_fault (slot_count lists) lists.flags

-- Lists that are sound: the offsets are, the last is at most the number of value bytes, and flags that are given are
-- as many as the slots.
pub record AreSoundLists (lists : OffsetLists) : Type 0 where
  pub sound : AreSoundOffsets lists.offsets
  pub within : last_of lists.offsets ≤ℤ pos (length lists.values)
  pub flagged : AreFlagsOf (slot_count lists) lists.flags

-- n slots from a place on: their offsets, first and last included, and all the value bytes
unfoldable pub sliced_lists : OffsetLists → ℕ → ℕ → OffsetLists
sliced_lists lists from n = offset_lists (sublist lists.offsets from (n + 1)) lists.values (sliced_flags lists.flags from n)

-- A part of lists, of n slots from a place on: which lists it has, which slots they mean and how many, and that they are
-- sound.
pub record IsPart (old : OffsetLists) (from n : ℕ) (new : OffsetLists) : Type 0 where
  pub part : new ≡ sliced_lists old from n
  pub slots : offset_slots new ≡ sublist (offset_slots old) from n
  pub count : slot_count new ≡ n
  pub sound : AreSoundLists new

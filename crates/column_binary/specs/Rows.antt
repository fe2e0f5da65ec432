-- The lists of a builder of slots with offsets, and how they take a row.
use Rattle.std.specs.Prelude.{◌≡◌, ℕ, ℤ, int_lt, pos, ◌+ℤ◌, true, false, List, [], ◌∷◌, ◌++◌, sum, length, take, ◌+◌, ◌-◌, ◌≤◌, ◌==◌, if◌then◌else◌, Option, Some, None, option_map}
use Rattle.column_base.specs.declared.errors.Cause.{Cause}
use Rattle.std.specs.List.{concat}
use Rattle.column_base.specs.declared.errors.Cause.TheVariants.{OffsetsNotFull}
use Rattle.column_base.specs.Answers.{cause_if, ◌or_else◌}
use Rattle.column_base.specs.Pushes.{Growth}
use Rattle.column_base.specs.Kinds.{Slot}
use Rattle.column_storage.specs.Bits.{frozen_flags, pushed_flag, joined_flags}
use Rattle.column_storage.specs.Validity.{flags_fault}
use Rattle.column_base.specs.Slots.{slot_at, row_of}
use Rattle.column_offset.specs.Offsets.{last_of, nat_of, offset_at, bounds_fault}
use Rattle.column_offset.specs.Growth.{pushed, extended, lengths_of, limit_fault}
use Rattle.column_offset.specs.Text.{pieces}
use Rattle.column_binary.specs.Slots.{OffsetLists, offset_lists, slot_count, offset_slots, AreSoundLists}

-- This library's own: growing lists, and how many more slots and value bytes they take without further memory.
pub record GrowingLists : Type 0 where
  pub lists : OffsetLists
  pub spare_slots : ℕ
  pub spare_bytes : ℕ

-- no less room than there was
abbrev pub KeepsSpare : GrowingLists → GrowingLists → Type 0
KeepsSpare old new = (old.spare_slots ≤ new.spare_slots) × (old.spare_bytes ≤ new.spare_bytes)

-- sound lists whose last offset is the number of value bytes
pub record AreFullLists (lists : OffsetLists) : Type 0 where
  pub sound : AreSoundLists lists
  pub full : last_of lists.offsets ≡ pos (length lists.values)

-- in a builder, the last offset is below the number of value bytes
abbrev pub full_fault : List ℤ → ℕ → Option Cause
full_fault offsets count = cause_if (int_lt (last_of offsets) (pos count)) OffsetsNotFull

-- the first fault of a builder's lists whose offsets are sound, beside that of its data type
abbrev pub builder_fault : OffsetLists → Option Cause → Option Cause
builder_fault lists type =
    bounds_fault lists.offsets (length lists.values)
    or_else full_fault lists.offsets (length lists.values)
    or_else type
    or_else flags_fault (slot_count lists) lists.flags

-- lists without slots
abbrev pub no_slots : OffsetLists
no_slots = offset_lists (pos 0 ∷ []) [] None

-- the slot of a row: a null slot that is written has no bytes
abbrev pub slot_of : Option (List ℕ) → Slot
slot_of None = record { valid = false; bytes = [] }
slot_of (Some bytes) = record { valid = true; bytes = bytes }

-- the number of bytes of a row
abbrev pub row_length : Option (List ℕ) → ℕ
row_length row = length (slot_of row).bytes

-- the lists with the slot of one more row
abbrev pub pushed_row : OffsetLists → Option (List ℕ) → OffsetLists
pushed_row lists None = offset_lists (pushed lists.offsets 0) lists.values (pushed_flag (slot_count lists) lists.flags false)
pushed_row lists (Some bytes) = offset_lists (pushed lists.offsets (length bytes)) (lists.values ++ bytes) (pushed_flag (slot_count lists) lists.flags true)

-- why a row is refused: the new last offset passes the greatest value of the type
abbrev pub row_fault : ℕ → OffsetLists → Option (List ℕ) → Option Cause
row_fault greatest lists None = None
row_fault greatest lists (Some bytes) = limit_fault greatest (last_of lists.offsets +ℤ pos (length bytes))

-- how lists with offsets up to a greatest one take a row
abbrev pub row_growth : ℕ → Growth OffsetLists (Option (List ℕ))
row_growth greatest = record { fault = row_fault greatest; pushed = pushed_row }

-- the first n slots, with the value bytes up to their end
unfoldable pub first_slots : OffsetLists → ℕ → OffsetLists
first_slots lists n = offset_lists (take (n + 1) lists.offsets) (take (nat_of (offset_at lists.offsets n)) lists.values) (option_map (take n) lists.flags)

-- the same slots, with the value bytes up to the last offset
abbrev pub used_lists : OffsetLists → OffsetLists
used_lists lists = offset_lists lists.offsets (take (nat_of (last_of lists.offsets)) lists.values) lists.flags

-- the row of the last slot, where there is one
abbrev pub last_row : OffsetLists → Option (List ℕ)
last_row lists = if slot_count lists == 0 then None else row_of (slot_at (offset_slots lists) (slot_count lists - 1))

-- the lists of an array of the same slots: a validity is dropped where no slot is null
abbrev pub frozen_lists : OffsetLists → OffsetLists
frozen_lists lists = offset_lists lists.offsets lists.values (frozen_flags lists.flags)

-- the slots of one after those of the other
unfoldable pub joined_lists : OffsetLists → OffsetLists → OffsetLists
joined_lists lists others = offset_lists
    (extended lists.offsets (lengths_of others.offsets))
    (lists.values ++ concat (pieces others.offsets others.values))
    (joined_flags (slot_count lists) lists.flags (slot_count others) others.flags)

-- the new last offset passes the greatest value of the type
abbrev pub join_fault : ℕ → OffsetLists → OffsetLists → Option Cause
join_fault greatest lists others = limit_fault greatest (last_of lists.offsets +ℤ pos (sum (lengths_of others.offsets)))

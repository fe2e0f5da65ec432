-- The lists of an array of byte strings of one width, the slots that they mean, and their faults.
use Rattle.std.specs.Prelude.{◌≡◌, ℕ, ◌*◌, ◌/◌, ◌%◌, ◌<◌, ◌==◌, Bool, not, List, length, Option}
use Rattle.std.specs.Simd.{first_chunks}
use Rattle.column_base.specs.declared.errors.Cause.{Cause}
use Rattle.column_base.specs.declared.errors.Cause.TheVariants.{SizeZero, NotMultiple}
use Rattle.column_base.specs.Answers.{cause_if, ◌or_else◌}
use Rattle.column_base.specs.Kinds.{Slot}
use Rattle.column_base.specs.Lists.{sublist}
use Rattle.column_storage.specs.Bits.{sliced_flags}
use Rattle.column_storage.specs.Slots.{flagged_slots}
use Rattle.column_storage.specs.Validity.{AreFlagsOf, flags_fault}

-- Arrow columnar format, "Fixed-size Primitive Layout": the width of a slot in bytes, the value bytes of all slots end to
-- end, and the validity where one is given.
pub record FixedLists : Type 0 where
  pub width : ℕ
  pub values : List ℕ
  pub flags : Option (List Bool)

abbrev pub fixed_lists : ℕ → List ℕ → Option (List Bool) → FixedLists
fixed_lists width values flags = record { width = width; values = values; flags = flags }

-- as many slots as the width goes into the value bytes
abbrev pub fixed_count : FixedLists → ℕ
fixed_count lists = length lists.values / lists.width

-- what the lists mean: each flag beside one of the pieces of equal length that the value bytes are cut into
unfoldable pub fixed_slots : FixedLists → List Slot
fixed_slots lists = flagged_slots lists.flags (first_chunks lists.width (fixed_count lists) lists.values)

-- why so many bytes are not those of slots of a width
abbrev pub width_fault : ℕ → ℕ → Option Cause
width_fault width bytes = cause_if (width == 0) SizeZero or_else cause_if (not (bytes % width == 0)) NotMultiple

-- the first fault of lists
abbrev pub fixed_fault : FixedLists → Option Cause
fixed_fault lists = width_fault lists.width (length lists.values) or_else flags_fault (fixed_count lists) lists.flags

-- Lists that are sound: the width is above 0, the slots take up all value bytes, and flags that are given are as many as
-- the slots.
pub record AreSoundFixed (lists : FixedLists) : Type 0 where
  pub positive : 0 < lists.width
  pub whole : fixed_count lists * lists.width ≡ length lists.values
  pub flagged : AreFlagsOf (fixed_count lists) lists.flags

-- n slots from a place on: their value bytes alone, and their flags
unfoldable pub sliced_fixed : FixedLists → ℕ → ℕ → FixedLists
sliced_fixed lists from n = fixed_lists lists.width (sublist lists.values (from * lists.width) (n * lists.width)) (sliced_flags lists.flags from n)

-- A part of lists, of n slots from a place on: which lists it has, which slots they mean and how many, and that they are
-- sound.
pub record IsPart (old : FixedLists) (from n : ℕ) (new : FixedLists) : Type 0 where
  pub part : new ≡ sliced_fixed old from n
  pub slots : fixed_slots new ≡ sublist (fixed_slots old) from n
  pub count : fixed_count new ≡ n
  pub sound : AreSoundFixed new

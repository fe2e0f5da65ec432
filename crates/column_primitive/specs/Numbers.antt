-- The lists of an array of numbers, the slots that they mean, and their faults.
use Rattle.std.specs.Prelude.{◌≡◌, ℕ, Bool, List, length, map, slice_get, Option, None, if◌then◌else◌}
use Rattle.column_base.specs.declared.errors.Cause.{Cause}
use Rattle.column_base.specs.declared.datatypes.ArrowDataType.{ArrowDataType}
use Rattle.column_base.specs.declared.datatypes.PrimitiveType.{PrimitiveType}
use Rattle.column_base.specs.Answers.{◌or_else◌}
use Rattle.column_base.specs.Kinds.{Slot}
use Rattle.column_base.specs.Lists.{sublist}
use Rattle.column_storage.specs.Bits.{flags_of, sliced_flags, given_bits, optional_values, valid_values}
use Rattle.column_storage.specs.Slots.{flagged_slots}
use Rattle.column_storage.specs.Validity.{AreFlagsOf, flags_fault, is_valid_at}
use Rattle.column_primitive.specs.Types.{number_type_fault}

-- Arrow columnar format, "Fixed-size Primitive Layout": a number for each slot, and the validity where one is given.
pub record NumberLists (T : Type 0) : Type 0 where
  pub numbers : List T
  pub flags : Option (List Bool)

abbrev pub number_lists : {T : Type 0} → List T → Option (List Bool) → NumberLists T
number_lists numbers flags = record { numbers = numbers; flags = flags }

abbrev pub number_count : {T : Type 0} → NumberLists T → ℕ
number_count lists = length lists.numbers

-- what the lists mean, where each number has its bytes: each flag beside the bytes of a number
unfoldable pub number_slots : {T : Type 0} → (T → List ℕ) → NumberLists T → List Slot
number_slots bytes lists = flagged_slots lists.flags (map bytes lists.numbers)

-- the first fault of lists
abbrev pub number_fault : {T : Type 0} → NumberLists T → Option Cause
number_fault lists = flags_fault (number_count lists) lists.flags

-- Lists that are sound: flags that are given are as many as the numbers.
pub record AreSoundNumbers {T : Type 0} (lists : NumberLists T) : Type 0 where
  pub flagged : AreFlagsOf (number_count lists) lists.flags

-- n slots from a place on
unfoldable pub sliced_numbers : {T : Type 0} → NumberLists T → ℕ → ℕ → NumberLists T
sliced_numbers lists from n = number_lists (sublist lists.numbers from n) (sliced_flags lists.flags from n)

-- the number of a slot; none where the slot is null, or past the end
abbrev pub number_at : {T : Type 0} → NumberLists T → ℕ → Option T
number_at lists i = if is_valid_at lists.flags i then slice_get lists.numbers i else None

-- an optional number for each slot
abbrev pub number_rows : {T : Type 0} → NumberLists T → List (Option T)
number_rows lists = optional_values (given_bits lists.flags) lists.numbers

-- the numbers of valid slots
abbrev pub valid_numbers : {T : Type 0} → NumberLists T → List T
valid_numbers lists = valid_values (flags_of (number_count lists) lists.flags) lists.numbers

-- Arrow columnar format, "Data Types": the lists, and what they mean, since several data types lie in one physical type.
pub record NumberArray (T : Type 0) : Type 0 where
  pub dtype : ArrowDataType
  pub lists : NumberLists T

abbrev pub number_array : {T : Type 0} → ArrowDataType → NumberLists T → NumberArray T
number_array dtype lists = record { dtype = dtype; lists = lists }

-- the first fault of an array's parts
abbrev pub number_array_fault : {T : Type 0} → PrimitiveType → NumberArray T → Option Cause
number_array_fault primitive array = number_fault array.lists or_else number_type_fault primitive array.dtype

-- An array that is sound: its data type lies in the physical type of its numbers, and its lists are sound.
pub record IsSoundArray {T : Type 0} (primitive : PrimitiveType) (array : NumberArray T) : Type 0 where
  pub own : number_type_fault primitive array.dtype ≡ None
  pub sound : AreSoundNumbers array.lists

-- n slots of an array from a place on
abbrev pub sliced_array : {T : Type 0} → NumberArray T → ℕ → ℕ → NumberArray T
sliced_array array from n = number_array array.dtype (sliced_numbers array.lists from n)

-- A part of an array, of n slots from a place on: which data type and lists it has, which slots they mean and how many,
-- and that they are sound.
pub record IsNumberPart {T : Type 0} (bytes : T → List ℕ) (old : NumberArray T) (from n : ℕ) (new : NumberArray T) : Type 0 where
  pub dtype : new.dtype ≡ old.dtype
  pub part : new.lists ≡ sliced_numbers old.lists from n
  pub slots : number_slots bytes new.lists ≡ sublist (number_slots bytes old.lists) from n
  pub count : number_count new.lists ≡ n
  pub sound : AreSoundNumbers new.lists

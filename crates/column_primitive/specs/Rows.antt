-- The slots of a builder of numbers, and how they take a row.
use Rattle.std.specs.Prelude.{◌≡◌, ℕ, Bool, true, List, [], ◌∷◌, ◌++◌, take, replicate, slice_set, Option, Some, None, option_map, unwrap_or, is_some}
use Rattle.std.specs.List.{refill}
use Rattle.std.specs.Borrow.{MutBor}
use Rattle.std.specs.Fn.{Shared}
use Rattle.std.specs.Option.{option_eq}
use Rattle.std.specs.Cmp.Lexicographic.{pointwise}
use Rattle.column_base.specs.declared.datatypes.ArrowDataType.{ArrowDataType}
use Rattle.column_base.specs.Kinds.{Slot}
use Rattle.column_base.specs.Pushes.{Growth}
use Rattle.column_storage.specs.Bits.{frozen_flags, pushed_flag, joined_flags, constant_flags, changed_flag}
use Rattle.column_primitive.specs.Numbers.{NumberLists, number_lists, number_count, number_rows, NumberArray, number_array}

-- This library's own: a growing array, and how many more slots it takes without further memory.
pub record GrowingNumbers (T : Type 0) : Type 0 where
  pub array : NumberArray T
  pub spare : ℕ

-- an array without slots
abbrev pub no_numbers : {T : Type 0} → ArrowDataType → NumberArray T
no_numbers dtype = number_array dtype (number_lists [] None)

-- the number that is stored for a row: for a null the given one
abbrev pub stored : {T : Type 0} → T → Option T → T
stored null row = unwrap_or row null

-- The slot of a row: a null slot that is written has the bytes of the number for nulls.
abbrev pub slot_of : {T : Type 0} → (T → List ℕ) → T → Option T → Slot
slot_of bytes null row = record { valid = is_some row; bytes = bytes (stored null row) }

-- the array with the slot of one more row
abbrev pub pushed_row : {T : Type 0} → T → NumberArray T → Option T → NumberArray T
pushed_row null array row = number_array array.dtype (number_lists
    (array.lists.numbers ++ stored null row ∷ [])
    (pushed_flag (number_count array.lists) array.lists.flags (is_some row)))

-- how an array takes a row: none is refused
abbrev pub row_growth : {T : Type 0} → T → Growth (NumberArray T) (Option T)
row_growth null = record { fault = λ array row. None; pushed = pushed_row null }

-- the first n slots
unfoldable pub first_numbers : {T : Type 0} → NumberLists T → ℕ → NumberLists T
first_numbers lists n = number_lists (take n lists.numbers) (option_map (take n) lists.flags)

abbrev pub first_array : {T : Type 0} → NumberArray T → ℕ → NumberArray T
first_array array n = number_array array.dtype (first_numbers array.lists n)

-- an array of the same slots: a validity is dropped where no slot is null
abbrev pub frozen_array : {T : Type 0} → NumberArray T → NumberArray T
frozen_array array = number_array array.dtype (number_lists array.lists.numbers (frozen_flags array.lists.flags))

-- the slots of one after those of the other, with the data type of the first
abbrev pub joined_array : {T : Type 0} → NumberArray T → NumberLists T → NumberArray T
joined_array array others = number_array array.dtype (number_lists
    (array.lists.numbers ++ others.numbers)
    (joined_flags (number_count array.lists) array.lists.flags (number_count others) others.flags))

-- the array with n more slots of one row
abbrev pub extended_row : {T : Type 0} → T → NumberArray T → ℕ → Option T → NumberArray T
extended_row null array n row = number_array array.dtype (number_lists
    (array.lists.numbers ++ replicate n (stored null row))
    (joined_flags (number_count array.lists) array.lists.flags n (constant_flags n (is_some row))))

-- the array where slot i is another row
abbrev pub changed_row : {T : Type 0} → T → NumberArray T → ℕ → Option T → NumberArray T
changed_row null array i row = number_array array.dtype (number_lists
    (slice_set array.lists.numbers i (stored null row))
    (changed_flag (number_count array.lists) array.lists.flags i (is_some row)))

-- other numbers beside the same flags, under the same data type
abbrev pub with_numbers : {T : Type 0} → NumberArray T → List T → NumberArray T
with_numbers array numbers = number_array array.dtype (number_lists numbers array.lists.flags)

-- the numbers that were written in place of those that there were, as many as there were
abbrev pub rewritten : {T : Type 0} → GrowingNumbers T → List T → GrowingNumbers T
rewritten old numbers = record { array = with_numbers old.array (refill (number_count old.array.lists) old.array.lists.numbers numbers); spare = old.spare }

-- other flags beside the same numbers, under the same data type
abbrev pub with_flags : {T : Type 0} → NumberArray T → Option (List Bool) → NumberArray T
with_flags array flags = number_array array.dtype (number_lists array.lists.numbers flags)

-- rows are equal where they are as many, and at each place both null or equal numbers
abbrev pub are_same_rows : {T : Type 0} → (T → T → Bool) → GrowingNumbers T → GrowingNumbers T → Bool
are_same_rows same a b = pointwise (option_eq same) (number_rows a.array.lists) (number_rows b.array.lists)

-- A call of a closure by `&`, at a `&mut` to the old numbers, may leave the new ones.
pub record LeavesNumbers {F T : Type 0} (call : Shared F (MutBor (List T) × Unit {0}) (Unit {0} × (MutBor (List T) × Unit {0}))) (f : F) (old new : List T) : Type 0 where
  pub shown : MutBor (List T)
  pub shows : shown.now ≡ old
  pub left : MutBor (List T)
  pub met : call.post f (shown, tt) (tt, (left, tt))
  pub leaves : left.now ≡ new

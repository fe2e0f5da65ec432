-- The rows of truth values, how a builder's lists take them, and how an array of them prints.
use Rattle.std.specs.Prelude.{ℕ, ◌==◌, Bool, true, false, List, [], ◌∷◌, ◌++◌, take, slice_get, codes, Option, Some, None, option_map, if◌then◌else◌}
use Rattle.column_base.specs.Kinds.{Slot}
use Rattle.column_base.specs.Pushes.{Growth}
use Rattle.column_storage.specs.Bits.{frozen_flags, given_bits, optional_values, pushed_flag}
use Rattle.column_storage.specs.Validity.{is_valid_at}
use Rattle.column_boolean.specs.Slots.{BooleanLists, boolean_lists, boolean_count, byte_of}

-- This library's own: growing lists, and how many more slots they take without further memory.
pub record GrowingBooleans : Type 0 where
  pub lists : BooleanLists
  pub spare : ℕ

-- lists without slots
abbrev pub no_slots : BooleanLists
no_slots = boolean_lists [] None

-- the rows: a truth value where its flag is set, and else none
abbrev pub boolean_rows : BooleanLists → List (Option Bool)
boolean_rows lists = optional_values (given_bits lists.flags) lists.values

-- the truth value of a slot; none where the slot is null, or past the end
abbrev pub boolean_at : BooleanLists → ℕ → Option Bool
boolean_at lists i = if is_valid_at lists.flags i then slice_get lists.values i else None

-- the slot of a row: a null slot that is written is false
abbrev pub slot_of : Option Bool → Slot
slot_of None = record { valid = false; bytes = byte_of false }
slot_of (Some value) = record { valid = true; bytes = byte_of value }

-- the lists with the slot of one more row
abbrev pub pushed_row : BooleanLists → Option Bool → BooleanLists
pushed_row lists None = boolean_lists (lists.values ++ false ∷ []) (pushed_flag (boolean_count lists) lists.flags false)
pushed_row lists (Some value) = boolean_lists (lists.values ++ value ∷ []) (pushed_flag (boolean_count lists) lists.flags true)

-- how lists take a row: none is refused
abbrev pub row_growth : Growth BooleanLists (Option Bool)
row_growth = record { fault = λ lists row. None; pushed = pushed_row }

-- the first n slots
unfoldable pub first_booleans : BooleanLists → ℕ → BooleanLists
first_booleans lists n = boolean_lists (take n lists.values) (option_map (take n) lists.flags)

-- the lists of an array of the same slots: a validity is dropped where no slot is null
abbrev pub frozen_lists : BooleanLists → BooleanLists
frozen_lists lists = boolean_lists lists.values (frozen_flags lists.flags)

-- this library's own: the text of a row
abbrev pub row_text : Option Bool → List ℕ
row_text None = codes "None"
row_text (Some true) = codes "true"
row_text (Some false) = codes "false"

-- what stands before the row at a place: nothing before the first, and a comma before each other
abbrev pub comma_text : ℕ → List ℕ
comma_text place = if place == 0 then [] else codes ", "

-- the texts of rows that follow the first
abbrev pub more_text : List (Option Bool) → List ℕ
more_text [] = []
more_text (row ∷ rows) = codes ", " ++ row_text row ++ more_text rows

-- texts of rows, with a comma between two
abbrev pub rows_text : List (Option Bool) → List ℕ
rows_text [] = []
rows_text (row ∷ rows) = row_text row ++ more_text rows

-- the text of an array: its head, and its rows in brackets
abbrev pub boolean_text : BooleanLists → List ℕ
boolean_text lists = codes "BooleanArray[" ++ rows_text (boolean_rows lists) ++ codes "]"

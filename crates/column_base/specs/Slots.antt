-- The slots of a column, and what is read of them. Arrow columnar format, "Validity bitmaps".
use Rattle.std.specs.Prelude.{ℕ, Bool, true, List, [], ◌∷◌, map, slice_index_or, Option, Some, None, if◌then◌else◌}
use Rattle.column_base.specs.Kinds.{Slot}

-- a slot of each flag and the bytes beside it
abbrev pub slots_by : List Bool → List (List ℕ) → List Slot
slots_by [] values = []
slots_by (flag ∷ flags) [] = []
slots_by (flag ∷ flags) (bytes ∷ values) = record { valid = flag; bytes = bytes } ∷ slots_by flags values

-- the slot at a place; past the end, a valid slot without bytes
abbrev pub slot_at : List Slot → ℕ → Slot
slot_at slots i = slice_index_or slots i (record { valid = true; bytes = [] })

-- the bytes of each slot, of a null one too
abbrev pub values_of : List Slot → List (List ℕ)
values_of slots = map (λ slot. slot.bytes) slots

-- the bytes of a valid slot
abbrev pub row_of : Slot → Option (List ℕ)
row_of slot = if slot.valid then Some slot.bytes else None

-- an optional value for each slot
abbrev pub rows_of : List Slot → List (Option (List ℕ))
rows_of slots = map row_of slots

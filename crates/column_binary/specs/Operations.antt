-- What an operation leaves of the slots of a builder: this library's own. Operations in a row leave the fold.
use Rattle.std.specs.Prelude.{ℕ, ◌-◌, List, [], ◌∷◌, ◌++◌, length, take, Option, Some, None}
use Rattle.column_base.specs.declared.errors.Cause.{Cause}
use Rattle.column_base.specs.Kinds.{Slot}
use Rattle.column_base.specs.Pushes.{Growth}
use Rattle.column_binary.specs.Slots.{OffsetLists, slot_count}
use Rattle.column_binary.specs.Rows.{slot_of, pushed_row, row_fault, first_slots}
use Rattle.column_binary.specs.declared.operations.BinaryOperation.{BinaryOperation}
use Rattle.column_binary.specs.declared.operations.BinaryOperation.TheVariants.{Push, PushNull, Pop}

-- A push adds a slot, a pop takes the last one, where there is one. A null is pushed as the row that is given: as no
-- value, or, by a builder of values, as an empty one.
abbrev pub slots_after : Option (List ℕ) → List Slot → BinaryOperation → List Slot
slots_after null slots (Push bytes) = slots ++ slot_of (Some bytes.items) ∷ []
slots_after null slots PushNull = slots ++ slot_of null ∷ []
slots_after null slots Pop = take (length slots - 1) slots

-- the lists of a builder after an operation
abbrev pub lists_after : Option (List ℕ) → OffsetLists → BinaryOperation → OffsetLists
lists_after null lists (Push bytes) = pushed_row lists (Some bytes.items)
lists_after null lists PushNull = pushed_row lists null
lists_after null lists Pop = first_slots lists (slot_count lists - 1)

-- why an operation is refused
abbrev pub operation_fault : ℕ → OffsetLists → BinaryOperation → Option Cause
operation_fault greatest lists (Push bytes) = row_fault greatest lists (Some bytes.items)
operation_fault greatest lists PushNull = None
operation_fault greatest lists Pop = None

-- how lists take an operation
abbrev pub operation_growth : Option (List ℕ) → ℕ → Growth OffsetLists BinaryOperation
operation_growth null greatest = record { fault = operation_fault greatest; pushed = lists_after null }

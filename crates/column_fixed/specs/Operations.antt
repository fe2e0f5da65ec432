-- What an operation leaves of the slots of a builder: this library's own. Operations in a row leave the fold.
use Rattle.std.specs.Prelude.{ℕ, ◌-◌, List, [], ◌∷◌, ◌++◌, length, take, Option, Some, None}
use Rattle.column_base.specs.declared.errors.Cause.{Cause}
use Rattle.column_base.specs.Kinds.{Slot}
use Rattle.column_base.specs.Pushes.{Growth}
use Rattle.column_fixed.specs.Slots.{FixedLists, fixed_count}
use Rattle.column_fixed.specs.Rows.{slot_of, pushed_row, row_fault, first_slots}
use Rattle.column_fixed.specs.declared.operations.FixedOperation.{FixedOperation}
use Rattle.column_fixed.specs.declared.operations.FixedOperation.TheVariants.{Push, PushNull, Pop}

-- A push adds a slot, a null one of zeros, and a pop takes the last one, where there is one.
abbrev pub slots_after : ℕ → List Slot → FixedOperation → List Slot
slots_after width slots (Push bytes) = slots ++ slot_of width (Some bytes.items) ∷ []
slots_after width slots PushNull = slots ++ slot_of width None ∷ []
slots_after width slots Pop = take (length slots - 1) slots

-- the lists of a builder after an operation
abbrev pub lists_after : FixedLists → FixedOperation → FixedLists
lists_after lists (Push bytes) = pushed_row lists (Some bytes.items)
lists_after lists PushNull = pushed_row lists None
lists_after lists Pop = first_slots lists (fixed_count lists - 1)

-- why an operation is refused
abbrev pub operation_fault : FixedLists → FixedOperation → Option Cause
operation_fault lists (Push bytes) = row_fault lists (Some bytes.items)
operation_fault lists PushNull = None
operation_fault lists Pop = None

-- how lists take an operation
abbrev pub operation_growth : Growth FixedLists FixedOperation
operation_growth = record { fault = operation_fault; pushed = lists_after }

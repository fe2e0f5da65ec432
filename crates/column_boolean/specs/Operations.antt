-- What an operation leaves of the slots of a builder: this library's own. Operations in a row leave the fold.
use Rattle.std.specs.Prelude.{◌-◌, List, [], ◌∷◌, ◌++◌, length, take, Some, None}
use Rattle.column_base.specs.Kinds.{Slot}
use Rattle.column_boolean.specs.Slots.{BooleanLists, boolean_count}
use Rattle.column_boolean.specs.Rows.{slot_of, pushed_row, first_booleans}
use Rattle.column_boolean.specs.declared.operations.BooleanOperation.{BooleanOperation}
use Rattle.column_boolean.specs.declared.operations.BooleanOperation.TheVariants.{Push, PushNull, Pop}

-- A push adds a slot, a null one of false, and a pop takes the last one, where there is one.
abbrev pub slots_after : List Slot → BooleanOperation → List Slot
slots_after slots (Push value) = slots ++ slot_of (Some value) ∷ []
slots_after slots PushNull = slots ++ slot_of None ∷ []
slots_after slots Pop = take (length slots - 1) slots

-- the lists of a builder after an operation
abbrev pub lists_after : BooleanLists → BooleanOperation → BooleanLists
lists_after lists (Push value) = pushed_row lists (Some value)
lists_after lists PushNull = pushed_row lists None
lists_after lists Pop = first_booleans lists (boolean_count lists - 1)

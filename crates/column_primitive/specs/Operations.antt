-- What an operation leaves of the slots of a builder: this library's own. Operations in a row leave the fold.
use Rattle.std.specs.Prelude.{ℕ, ◌-◌, List, [], ◌∷◌, ◌++◌, length, take, Some, None}
use Rattle.column_base.specs.Kinds.{Slot}
use Rattle.column_base.specs.Pushes.{Growth}
use Rattle.column_primitive.specs.Numbers.{NumberArray, number_count}
use Rattle.column_primitive.specs.Rows.{slot_of, pushed_row, first_array}
use Rattle.column_primitive.specs.declared.operations.NumberOperation.{NumberOperation}
use Rattle.column_primitive.specs.declared.operations.NumberOperation.TheVariants.{Push, PushNull, Pop}

-- A push adds a slot, a pop takes the last one, where there is one.
abbrev pub slots_after : {T : Type 0} → (T → List ℕ) → T → List Slot → NumberOperation T → List Slot
slots_after bytes null slots (Push value) = slots ++ slot_of bytes null (Some value) ∷ []
slots_after bytes null slots PushNull = slots ++ slot_of bytes null None ∷ []
slots_after bytes null slots Pop = take (length slots - 1) slots

-- the array of a builder after an operation
abbrev pub array_after : {T : Type 0} → T → NumberArray T → NumberOperation T → NumberArray T
array_after null array (Push value) = pushed_row null array (Some value)
array_after null array PushNull = pushed_row null array None
array_after null array Pop = first_array array (number_count array.lists - 1)

-- how an array takes an operation: none is refused
abbrev pub operation_growth : {T : Type 0} → T → Growth (NumberArray T) (NumberOperation T)
operation_growth null = record { fault = λ array operation. None; pushed = array_after null }

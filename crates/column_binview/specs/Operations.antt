-- What an operation leaves of a builder: this library's own. Operations in a row leave the fold.
use Rattle.std.specs.Prelude.{ℕ, List, [], ◌∷◌, ◌++◌, replicate, Option, Some, None}
use Rattle.column_base.specs.declared.errors.Cause.{Cause}
use Rattle.column_base.specs.Kinds.{Slot}
use Rattle.column_base.specs.Pushes.{Growth}
use Rattle.column_binview.specs.Builders.{ViewBuilder, slot_of, pushed_row, row_fault, extended_row}
use Rattle.column_binview.specs.declared.operations.ViewOperation.{ViewOperation}
use Rattle.column_binview.specs.declared.operations.ViewOperation.TheVariants.{Push, PushNull, Repeat}

-- A push adds a slot of its value or a null one, and a repeated value as many slots.
abbrev pub slots_after : {V : Type 0} → (V → List ℕ) → List Slot → ViewOperation V → List Slot
slots_after shown slots (Push value) = slots ++ slot_of (Some (shown value)) ∷ []
slots_after shown slots PushNull = slots ++ slot_of None ∷ []
slots_after shown slots (Repeat n value) = slots ++ replicate n (slot_of (Some (shown value)))

-- the builder after an operation
abbrev pub builder_after : {V : Type 0} → (V → List ℕ) → ViewBuilder → ViewOperation V → ViewBuilder
builder_after shown builder (Push value) = pushed_row builder (Some (shown value))
builder_after shown builder PushNull = pushed_row builder None
builder_after shown builder (Repeat n value) = extended_row builder n (Some (shown value))

-- why an operation is refused: its value is
abbrev pub operation_fault : {V : Type 0} → (V → List ℕ) → ViewBuilder → ViewOperation V → Option Cause
operation_fault shown builder (Push value) = row_fault builder (Some (shown value))
operation_fault shown builder PushNull = None
operation_fault shown builder (Repeat n value) = row_fault builder (Some (shown value))

-- how builders take operations
abbrev pub operation_growth : {V : Type 0} → (V → List ℕ) → Growth ViewBuilder (ViewOperation V)
operation_growth shown = record { fault = operation_fault shown; pushed = builder_after shown }

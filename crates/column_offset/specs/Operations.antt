-- What an operation leaves of the lengths of slots: this library's own. Operations in a row leave the fold.
use Rattle.std.specs.Prelude.{ℕ, ◌+◌, ◌-◌, pos, List, [], ◌∷◌, ◌++◌, length, take, sum, Option, None}
use Rattle.column_base.specs.declared.errors.Cause.{Cause}
use Rattle.column_base.specs.Answers.{◌or_else◌}
use Rattle.column_offset.specs.declared.operations.OffsetsOperation.{OffsetsOperation}
use Rattle.column_offset.specs.declared.operations.OffsetsOperation.TheVariants.{Push, Pop}
use Rattle.column_offset.specs.Growth.{limit_fault}

-- the lengths after an operation; where there is none, none is taken
abbrev pub lengths_after : List ℕ → OffsetsOperation → List ℕ
lengths_after lengths (Push n) = lengths ++ n ∷ []
lengths_after lengths Pop = take (length lengths - 1) lengths

-- why an operation is refused
abbrev pub operation_fault : ℕ → List ℕ → OffsetsOperation → Option Cause
operation_fault greatest lengths (Push n) = limit_fault greatest (pos (sum lengths + n))
operation_fault greatest lengths Pop = None

-- why the first operation that is refused is
abbrev pub operations_fault : ℕ → List ℕ → List OffsetsOperation → Option Cause
operations_fault greatest lengths [] = None
operations_fault greatest lengths (operation ∷ operations) =
    operation_fault greatest lengths operation or_else operations_fault greatest (lengths_after lengths operation) operations

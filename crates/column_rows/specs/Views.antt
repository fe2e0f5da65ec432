-- What rows leave of the lists of views that they are written to: this library's own.
use Rattle.std.specs.Prelude.{◌≡◌, ℕ, ◌≤◌, List, length, take, drop, Option, Result, Ok, Err}
use Rattle.std.specs.List.{concat}
use Rattle.column_base.specs.declared.errors.Cause.TheVariants.{Overflow}
use Rattle.column_base.specs.declared.errors.PolarsError.{PolarsError}
use Rattle.column_base.specs.declared.errors.PolarsError.TheVariants.{NoMemory}
use Rattle.column_base.specs.Errors.{error_of}
use Rattle.column_blocks.specs.Blocks.{AreFilled}
use Rattle.column_binview.specs.Slots.{ViewLists}
use Rattle.column_binview.specs.Builders.{written_rows}

-- Buffers that are, end to end, these byte strings: none is empty, and they are at most as many.
pub record Hold (buffers values : List (List ℕ)) : Type 0 where
  pub bytes : concat buffers ≡ concat values
  pub count : length buffers ≤ length values
  pub filled : AreFilled buffers

-- Lists to which rows were appended: the old views and buffers are the first ones, and the further buffers hold the long
-- rows.
pub record AreAppended (old : ViewLists) (rows : List (Option (List ℕ))) (new : ViewLists) : Type 0 where
  pub views : take (length old.views) new.views ≡ old.views
  pub buffers : take (length old.buffers) new.buffers ≡ old.buffers
  pub further : Hold (drop (length old.buffers) new.buffers) (written_rows rows)

-- The answer is a value of which the fact holds, or Overflow, which comes only where the bound is passed. Want of memory
-- is free.
abbrev pub Overflows : {X : Type 0} → Result X PolarsError → Type 0 → (X → Type 0) → Type 0
Overflows (Ok x) Passed P = P x
Overflows (Err NoMemory) Passed P = Unit {0}
Overflows (Err error) Passed P = (error ≡ error_of Overflow) × Passed

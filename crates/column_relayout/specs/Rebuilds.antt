-- Rows that are written into a column of a kind.
use Rattle.std.specs.Prelude.{◌≡◌, ◌⊎◌, ℕ, ◌<◌, Bool, List, [], length, if◌then◌else◌, Option, Some, None, Result, Ok, Err}
use Rattle.column_base.specs.declared.errors.Cause.{Cause}
use Rattle.column_base.specs.declared.errors.Cause.TheVariants.{Overflow}
use Rattle.column_base.specs.declared.errors.PolarsError.{PolarsError}
use Rattle.column_base.specs.declared.errors.PolarsError.TheVariants as errors
use Rattle.column_base.specs.Errors.{error_of}
use Rattle.column_base.specs.Kinds.{ColumnKind}
use Rattle.column_storage.specs.declared.data_buffers.TheConstants.{MAX_BUFFERS}
use Rattle.column_binview.specs.Builders.{written_rows}
use Rattle.column_relayout.specs.declared.columns.AnyArray.{AnyArray}
use Rattle.column_relayout.specs.Kinds.{has_views}
use Rattle.column_relayout.specs.Columns.{RawLists, column_kind, slots_of, IsWellFormed}
use Rattle.column_relayout.specs.Written.{slots_in, write_fault}
use Rattle.column_relayout.specs.Steps.{IsWritten}
use Rattle.column_relayout.specs.Arrays.{lists_of}

-- The column is well formed, its kind is this one, its slots are those of the rows, and its lists are written.
pub record AreWritten (next : ColumnKind) (rows : List (Option (List ℕ))) (new : RawLists) : Type 0 where
  pub well_formed : IsWellFormed new
  pub kind : column_kind new ≡ next
  pub slots : slots_of new ≡ slots_in next rows
  pub written : IsWritten new

-- a column of a kind of views would have more buffers than there may be
abbrev pub PassBuffers : ColumnKind → List (Option (List ℕ)) → Type 0
PassBuffers next rows = MAX_BUFFERS < length (if has_views next then written_rows rows else [])

-- why rows are not written
abbrev pub RefusesRows : Bool → List (Option (List ℕ)) → ColumnKind → Cause → Type 0
RefusesRows text rows next cause =
    (write_fault text rows next ≡ Some cause) ⊎ ((cause ≡ Overflow) × (write_fault text rows next ≡ None) × PassBuffers next rows)

-- The answer for rows, which are those of texts where the flag is true. Memory wants only where they have no fault.
abbrev pub AnswersRows : Bool → List (Option (List ℕ)) → ColumnKind → Result AnyArray PolarsError → Type 0
AnswersRows text rows next (Ok column) = (write_fault text rows next ≡ None) × AreWritten next rows (lists_of column)
AnswersRows text rows next (Err (errors.ComputeError cause)) = RefusesRows text rows next cause × (error_of cause ≡ errors.ComputeError cause)
AnswersRows text rows next (Err (errors.OutOfBounds cause)) = RefusesRows text rows next cause × (error_of cause ≡ errors.OutOfBounds cause)
AnswersRows text rows next (Err errors.NoMemory) = write_fault text rows next ≡ None

-- How many buffers the steps of a plan write, and the bound on them: this library's own.
use Rattle.std.specs.Prelude.{◌≡◌, ℕ, zero, suc, ◌+◌, ◌<◌, List, [], ◌∷◌, length, if◌then◌else◌, None}
use Rattle.std.specs.List.{flat_map}
use Rattle.column_base.specs.Kinds.{Slot, ColumnKind}
use Rattle.column_base.specs.Slots.{values_of, rows_of}
use Rattle.column_storage.specs.declared.data_buffers.TheConstants.{MAX_BUFFERS}
use Rattle.column_blocks.specs.Blocks.{written_values}
use Rattle.column_binview.specs.Builders.{written_rows}
use Rattle.column_relayout.specs.declared.steps.Step.{Step}
use Rattle.column_relayout.specs.declared.steps.Step.TheVariants.{Gc, Append, Rebuild}
use Rattle.column_relayout.specs.Kinds.{kind_of, has_views}
use Rattle.column_relayout.specs.Columns.{RawLists, offset_column, view_column, fixed_column, number_column, column_kind, slots_of}
use Rattle.column_relayout.specs.Plans.{step_fault, kind_after, slots_after}

-- the buffers of views
abbrev pub buffers_of : RawLists → List (List ℕ)
buffers_of (offset_column large text lists) = []
buffers_of (view_column text lists) = lists.buffers
buffers_of (fixed_column lists) = []
buffers_of (number_column array) = []

-- the byte strings that a step writes behind views: the long ones among all slots, among the rows that are appended to
-- views, or among the rows that are written into views
abbrev pub written_by : ColumnKind → List Slot → Step → List (List ℕ)
written_by kind slots Gc = flat_map written_values (values_of slots)
written_by kind slots (Append rows) = if has_views kind then written_rows rows else []
written_by kind slots (Rebuild next) = if has_views (kind_of next) then written_rows (rows_of slots) else []
written_by kind slots step = []

-- the buffers that a step keeps beside those that it writes
abbrev pub kept_buffers : RawLists → Step → ℕ
kept_buffers column (Append rows) = length (buffers_of column)
kept_buffers column step = 0

-- The step has no fault, it writes byte strings behind views, and these with so many buffers pass the bound.
abbrev pub PassesBound : ℕ → ColumnKind → List Slot → Step → Type 0
PassesBound buffers kind slots step =
    (step_fault kind slots step ≡ None) × (0 < length (written_by kind slots step)) × (MAX_BUFFERS < buffers + length (written_by kind slots step))

-- Step `at` of a plan passes the bound: there were so many buffers, and each step so far wrote its own.
abbrev pub PassesAt : ℕ → ℕ → ColumnKind → List Slot → List Step → Type 0
PassesAt at buffers kind slots [] = ⊥
PassesAt zero buffers kind slots (step ∷ plan) = PassesBound buffers kind slots step
PassesAt (suc at) buffers kind slots (step ∷ plan) =
    (step_fault kind slots step ≡ None) × PassesAt at (buffers + length (written_by kind slots step)) (kind_after kind step) (slots_after kind slots step) plan

-- the bound on buffers is passed at step `at` of a plan
abbrev pub Passes : RawLists → List Step → ℕ → Type 0
Passes column plan at = PassesAt at (length (buffers_of column)) (column_kind column) (slots_of column) plan

-- No step passes the bound on buffers.
abbrev pub IsSmall : RawLists → List Step → Type 0
IsSmall column plan = (at : ℕ) → Passes column plan at → ⊥

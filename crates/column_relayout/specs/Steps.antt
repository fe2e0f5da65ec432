-- What one step makes of a column, and what the steps of a plan make of it, one after the other.
use Rattle.std.specs.Prelude.{◌≡◌, ℕ, List, [], ◌∷◌, Option, None}
use Rattle.std.specs.List.{flat_map}
use Rattle.column_base.specs.Slots.{values_of}
use Rattle.column_blocks.specs.Blocks.{written_values}
use Rattle.column_binary.specs.Slots.{offset_slots}
use Rattle.column_binview.specs.Slots.{view_slots}
use Rattle.column_binview.specs.Gathered.{Gathers}
use Rattle.column_deduped.specs.Deduped.{deduped}
use Rattle.column_rows.specs.Views.{Hold, AreAppended}
use Rattle.column_relayout.specs.declared.steps.Step.{Step}
use Rattle.column_relayout.specs.declared.steps.Step.TheVariants.{Gc, Dedupe, Append, Rebuild}
use Rattle.column_relayout.specs.Columns.{RawLists, offset_column, view_column, fixed_column, number_column, column_kind, slots_of, IsWellFormed}
use Rattle.column_relayout.specs.Written.{written_lists}
use Rattle.column_relayout.specs.Plans.{step_fault, kind_after, slots_after, light_step}

-- The lists are those of their own slots, written anew. Offsets start at 0 and the value bytes are the slots end to end;
-- or the buffers are, end to end, the long slots. Slots of one length have no other lists.
abbrev pub IsWritten : RawLists → Type 0
IsWritten (offset_column large text lists) = lists ≡ written_lists (offset_slots lists)
IsWritten (view_column text lists) = Hold lists.buffers (flat_map written_values (values_of (view_slots lists)))
IsWritten (fixed_column lists) = Unit {0}
IsWritten (number_column array) = Unit {0}

-- Buffers that are, end to end, the long slots; lists without buffers as they were. Only views have buffers.
abbrev pub IsGathered : RawLists → RawLists → Type 0
IsGathered (view_column text old) (view_column texts new) = Gathers old new
IsGathered old new = ⊥

-- the buffers that views name, each once, in the order of first naming
abbrev pub IsDeduped : RawLists → RawLists → Type 0
IsDeduped (view_column text old) new = new ≡ view_column text (deduped old)
IsDeduped old new = ⊥

-- Rows after the slots. Lists with offsets are written anew; views and buffers stay, and the further buffers are, end to
-- end, the long rows.
abbrev pub IsAppended : RawLists → List (Option (List ℕ)) → RawLists → Type 0
IsAppended (offset_column large text old) rows new = IsWritten new
IsAppended (view_column text old) rows (view_column texts new) = AreAppended old rows new
IsAppended (view_column text old) rows new = ⊥
IsAppended (fixed_column old) rows new = Unit {0}
IsAppended (number_column old) rows new = Unit {0}

-- what a step promises of the lists
abbrev pub IsLaid : RawLists → Step → RawLists → Type 0
IsLaid old Gc new = IsGathered old new
IsLaid old Dedupe new = IsDeduped old new
IsLaid old (Append rows) new = IsAppended old rows new
IsLaid old (Rebuild next) new = IsWritten new
IsLaid old step new = new ≡ light_step old step

-- The new column is well formed, its kind and slots are what the step gives, and its lists what the step promises.
pub record StepsTo (old : RawLists) (step : Step) (new : RawLists) : Type 0 where
  pub well_formed : IsWellFormed new
  pub kind : column_kind new ≡ kind_after (column_kind old) step
  pub slots : slots_of new ≡ slots_after (column_kind old) (slots_of old) step
  pub laid : IsLaid old step new

-- The steps of a plan, one after the other and none with a fault, make the new column of the old one.
abbrev pub Relays : RawLists → List Step → RawLists → Type 0
Relays old [] new = new ≡ old
Relays old (step ∷ plan) new = (step_fault (column_kind old) (slots_of old) step ≡ None) × ((middle : RawLists) × StepsTo old step middle × Relays middle plan new)

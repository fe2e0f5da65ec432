-- Buffers of views that are made anew.
use Rattle.std.proofs.Common.{◌≡◌, ◌<◌, Bool, true, false, List, length, map, Option, Some, None, Err, MatchBool, refl, sym, ◌∙◌, ap, inr, arith}
use Rattle.std.specs.Prelude.{if◌then◌else◌, ◌==◌}
use Rattle.column_base.specs.declared.errors.Cause.{Cause}
use Rattle.column_base.specs.declared.errors.Cause.TheVariants.{WrongKind, Overflow}
use Rattle.column_base.specs.declared.errors.PolarsError.{PolarsError}
use Rattle.column_base.specs.declared.errors.PolarsError.TheVariants.{ComputeError, OutOfBounds, NoMemory}
use Rattle.column_base.specs.Errors.{error_of}
use Rattle.column_base.specs.Answers.{Answers}
use Rattle.column_base.specs.Kinds.{Slot, ColumnKind}
use Rattle.column_base.specs.Slots.{values_of}
use Rattle.column_storage.specs.declared.data_buffers.TheConstants.{MAX_BUFFERS}
use Rattle.column_binview.specs.Slots.{ViewLists, view_slots}
use Rattle.column_binview.specs.Builders.{no_slots}
use Rattle.column_binview.specs.Gathered.{Gathers, IsGathered, gather_fault, long_slots}
use Rattle.column_binview.proofs.GatheredLemmas.{overflow_rows}
use Rattle.column_deduped.specs.Deduped.{deduped}
use Rattle.column_relayout.specs.declared.steps.Step.TheVariants.{Gc, Dedupe}
use Rattle.column_relayout.specs.Kinds.{has_views, view_kind}
use Rattle.column_relayout.specs.Columns.{RawLists, view_column, IsWellFormed}
use Rattle.column_relayout.specs.Plans.{step_fault, slots_after}
use Rattle.column_relayout.specs.Steps.{StepsTo}
use Rattle.column_relayout.specs.Relayouts.{AnswersStep}
use Rattle.column_relayout.proofs.ColumnsLemmas.{views_are}
use Rattle.column_relayout.proofs.StepsLemmas.{error_answers}

pub no_gather : (kind : ColumnKind) (slots : List Slot) → has_views kind ≡ false → step_fault kind slots Gc ≡ Some WrongKind
unfolding step_fault
no_gather kind slots none = rw none refl

pub no_dedupe : (kind : ColumnKind) (slots : List Slot) → has_views kind ≡ false → step_fault kind slots Dedupe ≡ Some WrongKind
unfolding step_fault
no_dedupe kind slots none = rw none refl

pub ruleset no_buffers = (no_gather, no_dedupe, error_answers)

-- views have buffers
pub gather_fine : (text : Bool) (slots : List Slot) → step_fault (view_kind text) slots Gc ≡ None
unfolding step_fault
gather_fine text slots = rw (views_are text) refl

pub dedupe_fine : (text : Bool) (slots : List Slot) → step_fault (view_kind text) slots Dedupe ≡ None
unfolding step_fault
dedupe_fine text slots = rw (views_are text) refl

gathered_by : (old new : ViewLists) (test : Bool) → MatchBool test (new ≡ old) (IsGathered old new) → view_slots new ≡ view_slots old
gathered_by old new true same = ap view_slots same
gathered_by old new false gathered = gathered.slots

pub gather_steps : (text : Bool) (old new : ViewLists) → Gathers old new → IsWellFormed (view_column text new) → StepsTo (view_column text old) Gc (view_column text new)
unfolding slots_after
gather_steps text old new gathers formed = record {
  well_formed = formed;
  kind = refl;
  slots = gathered_by old new (length old.buffers == 0) gathers;
  laid = gathers;
}

pub dedupe_steps : (text : Bool) (old new : ViewLists) → new ≡ deduped old → view_slots (deduped old) ≡ view_slots old → IsWellFormed (view_column text new) → StepsTo (view_column text old) Dedupe (view_column text new)
unfolding slots_after
dedupe_steps text old new is same formed = record {
  well_formed = formed;
  kind = refl;
  slots = ap view_slots is ∙ same;
  laid = ap (view_column text) is;
}

-- only the number of buffers refuses
unless : (test : Bool) (fault : Option Cause) (cause : Cause) → (if test then None else fault) ≡ Some cause → fault ≡ Some cause
unless true fault cause is = absurd (cc)
unless false fault cause is = is

only_overflow : (lists : ViewLists) (cause : Cause) → gather_fault lists ≡ Some cause → cause ≡ Overflow
only_overflow lists cause is = overflow_rows no_slots (map Some (values_of (view_slots lists))) cause (unless (length lists.buffers == 0) _ cause is)

passed : (text : Bool) (lists : ViewLists) (cause : Cause) (error : PolarsError) → gather_fault lists ≡ Some cause → error_of cause ≡ error → (error ≡ error_of Overflow → MAX_BUFFERS < length (long_slots lists)) → (cause ≡ Overflow) × (MAX_BUFFERS < length (long_slots lists))
passed text lists cause error fault is few =
    let only = only_overflow lists cause fault in
    (only, few (sym is ∙ ap error_of only))

pub gather_refused : {X Y : Type 0} (shown : X → RawLists) (text : Bool) (lists : ViewLists) (error : PolarsError) (P : Y → Type 0) → Answers {X = Y} (Err error) (gather_fault lists) P → (error ≡ error_of Overflow → MAX_BUFFERS < length (long_slots lists)) → AnswersStep {X = X} shown (view_column text lists) Gc (Err error)
gather_refused shown text lists (ComputeError cause) P told few =
    let past = passed text lists cause (ComputeError cause) told.0 told.1 few in
    (inr (past.0, (gather_fine text (view_slots lists), omega (arith, past.1), omega (arith, past.1))), told.1)
gather_refused shown text lists (OutOfBounds cause) P told few =
    let past = passed text lists cause (OutOfBounds cause) told.0 told.1 few in
    (inr (past.0, (gather_fine text (view_slots lists), omega (arith, past.1), omega (arith, past.1))), told.1)
gather_refused shown text lists NoMemory P told few = gather_fine text (view_slots lists)

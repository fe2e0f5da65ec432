-- Rows that are written into a column of a kind.
use Rattle.std.specs.Prelude.{◌&&◌}
use Rattle.std.proofs.Common.{◌≡◌, ℕ, ◌<◌, ◌≤◌, Bool, true, false, not, List, [], ◌∷◌, map, Option, Some, None, Result, Ok, Err, refl, sym, ◌∙◌, ap, subst, inl, inr, arith, ℤ}
use Rattle.std.specs.Int.{w64}
use Rattle.std.specs.List.{flat_map}
use Rattle.column_base.specs.declared.errors.Cause.{Cause}
use Rattle.column_base.specs.declared.errors.Cause.TheVariants.{WrongKind, Overflow, ViewIndex, BufferSlice}
use Rattle.column_base.specs.Errors.{error_of}
use Rattle.column_base.specs.Integers.{greatest_offset}
use Rattle.column_base.specs.Answers.{Answers, cause_if, ◌or_else◌}
use Rattle.column_base.specs.declared.errors.PolarsError.{PolarsError}
use Rattle.column_base.specs.declared.errors.PolarsError.TheVariants.{ComputeError, OutOfBounds, NoMemory}
use Rattle.column_base.specs.Kinds.{Slot, ColumnKind}
use Rattle.column_base.specs.Kinds as kinds
use Rattle.column_base.specs.Native.{signed_bytes}
use Rattle.column_base.specs.Slots.{values_of, rows_of}
use Rattle.column_blocks.specs.Blocks.{written_values}
use Rattle.column_binary.specs.Slots.{OffsetLists, offset_slots, AreSoundLists}
use Rattle.column_binary.specs.Rows.{slot_of}
use Rattle.column_binview.specs.Slots.{ViewLists, view_slots}
use Rattle.column_binview.specs.Builders.{written_rows}
use Rattle.column_binview.specs.Builders as views
use Rattle.column_utf8.specs.Texts.{AreSoundTexts}
use Rattle.column_fixed.specs.Slots.{FixedLists, fixed_slots}
use Rattle.column_fixed.specs.Rows as fixed
use Rattle.column_primitive.specs.Numbers.{NumberArray, number_slots}
use Rattle.column_base.specs.Utf8.{is_well_formed_utf8}
use Rattle.column_offset.specs.Text.{are_well_formed_utf8}
use Rattle.column_rows.specs.Rows.{given_rows, bytes_in_rows}
use Rattle.column_rows.specs.Views.{Hold, Overflows}
use Rattle.column_relayout.specs.declared.columns.AnyArray.{AnyArray}
use Rattle.column_relayout.specs.declared.kind.Kind.{Kind}
use Rattle.column_relayout.specs.declared.steps.Step.TheVariants.{Rebuild}
use Rattle.column_relayout.specs.Kinds.{kind_of, is_text, offset_kind, view_kind}
use Rattle.column_relayout.specs.Columns.{RawLists, offset_column, view_column, fixed_column, number_column, column_kind, slots_of, IsWellFormed}
use Rattle.column_relayout.specs.Written.{slot_by, slots_in, bytes_fault, view_fault, write_fault, written_lists}
use Rattle.column_relayout.specs.Plans.{step_fault, slots_after}
use Rattle.column_relayout.specs.Relayouts.{RefusesStep, StepAnswers}
use Rattle.column_relayout.specs.Arrays.{lists_of}
use Rattle.column_relayout.specs.Rebuilds.{AreWritten, PassBuffers, RefusesRows, AnswersRows}
use Rattle.column_relayout.proofs.ColumnsLemmas.{text_is, widthless}
use Rattle.column_relayout.proofs.WrittenLemmas.{both_hold, row_texts, bytes_in-given, room_none, room_some, room_within, written_mean}
use Rattle.column_relayout.proofs.BuffersLemmas.{without_width, long_rows}
use Rattle.column_relayout.proofs.AppendLemmas.{rows_same}

refused : (old : RawLists) (kind : Kind) (cause : Cause) → RefusesRows (is_text (column_kind old)) (rows_of (slots_of old)) (kind_of kind) cause → RefusesStep old (Rebuild kind) cause
unfolding step_fault
refused old kind cause (inl fault) = inl fault
refused old kind cause (inr passed) = let past = passed.2 in inr (passed.0, (passed.1, omega (arith, past), omega (arith, past)))

-- the answer for the rows of a column's slots is that of the step
pub rows_answer : (old : RawLists) (kind : Kind) (result : Result AnyArray PolarsError) → AnswersRows (is_text (column_kind old)) (rows_of (slots_of old)) (kind_of kind) result → StepAnswers old (Rebuild kind) result
unfolding step_fault slots_after
rows_answer old kind (Ok column) told = (
  told.0,
  record {
    well_formed = told.1.well_formed;
    kind = told.1.kind;
    slots = told.1.slots;
    laid = told.1.written;
  },
)
rows_answer old kind (Err (ComputeError cause)) told = (refused old kind cause told.0, told.1)
rows_answer old kind (Err (OutOfBounds cause)) told = (refused old kind cause told.0, told.1)
rows_answer old kind (Err NoMemory) told = told

pub bytes_answer : (large text : Bool) (lists : OffsetLists) (kind : Kind) (result : Result AnyArray PolarsError) → AnswersRows text (rows_of (offset_slots lists)) (kind_of kind) result → StepAnswers (offset_column large text lists) (Rebuild kind) result
bytes_answer large text lists kind result told =
    rows_answer (offset_column large text lists) kind result (subst (λ (t : Bool). AnswersRows t (rows_of (offset_slots lists)) (kind_of kind) result) (sym (text_is large text)) told)

-- ---- what is written

pub offsets_written : (large text : Bool) (new : OffsetLists) (rows : List (Option (List ℕ))) → new ≡ written_lists (map slot_of rows) → IsWellFormed (offset_column large text new) → AreWritten (offset_kind large text) rows (offset_column large text new)
offsets_written large text new rows is formed =
    let slots : offset_slots new ≡ map slot_of rows = ap offset_slots is ∙ written_mean (map slot_of rows) in
    record {
      well_formed = formed;
      kind = refl;
      slots = rw (widthless large text) slots;
      written = is ∙ ap written_lists (sym slots);
    }

pub views_written : (text : Bool) (new : ViewLists) (rows : List (Option (List ℕ))) → view_slots new ≡ map views.slot_of rows → Hold new.buffers (written_rows rows) → IsWellFormed (view_column text new) → AreWritten (view_kind text) rows (view_column text new)
views_written text new rows slots hold formed =
    let same : view_slots new ≡ map slot_of rows = slots ∙ rows_same rows in
    record {
      well_formed = formed;
      kind = refl;
      slots = rw (without_width text) same;
      written = subst (Hold new.buffers) (sym (ap (λ (ss : List Slot). flat_map written_values (values_of ss)) same ∙ long_rows rows)) hold;
    }

pub fixed_written : (width : ℕ) (new : FixedLists) (rows : List (Option (List ℕ))) → new.width ≡ width → fixed_slots new ≡ map (fixed.slot_of width) rows → IsWellFormed (fixed_column new) → AreWritten (kinds.Fixed width) rows (fixed_column new)
fixed_written width new rows same slots formed = record {
  well_formed = formed;
  kind = ap kinds.Fixed same;
  slots = slots;
  written = tt;
}

pub numbers_written : (new : NumberArray ℤ) (rows : List (Option (List ℕ))) → number_slots (signed_bytes w64) new.lists ≡ map (fixed.slot_of 8) rows → IsWellFormed (number_column new) → AreWritten kinds.Int64 rows (number_column new)
numbers_written new rows slots formed = record {
  well_formed = formed;
  kind = refl;
  slots = slots;
  written = tt;
}

-- ---- rows without a fault

pub bytes_fit : (greatest : ℕ) (rows : List (Option (List ℕ))) → bytes_fault (Some greatest) (map slot_of rows) ≡ None → bytes_in_rows rows ≤ greatest
bytes_fit greatest rows none =
    let within = room_within greatest (map slot_of rows) none in
    let given = bytes_in-given rows in
    omega (arith, within, given)

pub bytes_none : (greatest : ℕ) (rows : List (Option (List ℕ))) → bytes_in_rows rows ≤ greatest → bytes_fault (Some greatest) (map slot_of rows) ≡ None
bytes_none greatest rows within = let given = bytes_in-given rows in room_none greatest (map slot_of rows) (omega (arith, within, given))

pub bytes_some : (greatest : ℕ) (rows : List (Option (List ℕ))) → greatest < bytes_in_rows rows → bytes_fault (Some greatest) (map slot_of rows) ≡ Some Overflow
bytes_some greatest rows past = let given = bytes_in-given rows in room_some greatest (map slot_of rows) (omega (arith, past, given))

pub ruleset bytes_causes = (bytes_none, bytes_some)

-- texts behind views, by the order of causes
pub text_views_fault : (text : Bool) (rows : List (Option (List ℕ))) → write_fault text rows kinds.Utf8View ≡ (cause_if (not text) WrongKind or_else view_fault rows)
text_views_fault true rows = refl
text_views_fault false rows = refl

-- what there is no cause against
fits_texts : (text : Bool) (greatest : ℕ) (rows : List (Option (List ℕ))) → (cause_if (not text) WrongKind or_else None or_else bytes_fault (Some greatest) (map slot_of rows)) ≡ None → (text ≡ true) × (bytes_in_rows rows ≤ greatest)
fits_texts true greatest rows none = (refl, bytes_fit greatest rows none)
fits_texts false greatest rows none = absurd (cc)

pub fits_binary32 : (text : Bool) (rows : List (Option (List ℕ))) → write_fault text rows kinds.Binary32 ≡ None → bytes_in_rows rows ≤ greatest_offset false
fits_binary32 text rows none = bytes_fit (greatest_offset false) rows none

pub fits_binary64 : (text : Bool) (rows : List (Option (List ℕ))) → write_fault text rows kinds.Binary64 ≡ None → bytes_in_rows rows ≤ greatest_offset true
fits_binary64 text rows none = bytes_fit (greatest_offset true) rows none

pub fits_utf8_32 : (text : Bool) (rows : List (Option (List ℕ))) → write_fault text rows kinds.Utf8_32 ≡ None → (text ≡ true) × (bytes_in_rows rows ≤ greatest_offset false)
fits_utf8_32 text rows none = fits_texts text (greatest_offset false) rows none

pub fits_utf8_64 : (text : Bool) (rows : List (Option (List ℕ))) → write_fault text rows kinds.Utf8_64 ≡ None → (text ≡ true) × (bytes_in_rows rows ≤ greatest_offset true)
fits_utf8_64 text rows none = fits_texts text (greatest_offset true) rows none

-- ---- numbers, by way of their bytes

-- rows that were written without a fault, or passed the number of buffers
pub overflows_answer : (text : Bool) (rows : List (Option (List ℕ))) (next : ColumnKind) (result : Result AnyArray PolarsError) → write_fault text rows next ≡ None → Overflows result (PassBuffers next rows) (λ column. AreWritten next rows (lists_of column)) → AnswersRows text rows next result
overflows_answer text rows next (Ok column) none told = (none, told)
overflows_answer text rows next (Err (ComputeError cause)) none told =
    let over = only_overflow cause told.0 in
    (inr (over.0, none, told.1), over.1)
  where
    only_overflow : (c : Cause) → ComputeError c ≡ error_of Overflow → (c ≡ Overflow) × (error_of c ≡ ComputeError c)
    only_overflow c is = let same : c ≡ Overflow = cc in (same, ap error_of same ∙ sym is)
overflows_answer text rows next (Err (OutOfBounds cause)) none told = absurd (let is = told.0 in cc)
overflows_answer text rows next (Err NoMemory) none told = none

-- a cause is the answer
pub cause_rows : (text : Bool) (rows : List (Option (List ℕ))) (next : ColumnKind) (cause : Cause) (error : PolarsError) → error ≡ error_of cause → write_fault text rows next ≡ Some cause → AnswersRows text rows next (Err error)
cause_rows text rows next cause error is fault = subst (λ (e : PolarsError). AnswersRows text rows next (Err e)) (sym is) (by_cause cause fault)
  where
    by_cause : (c : Cause) → write_fault text rows next ≡ Some c → AnswersRows text rows next (Err (error_of c))
    by_cause ViewIndex some = (inl some, refl)
    by_cause BufferSlice some = (inl some, refl)
    by_cause c some = (inl some, refl)

-- want of memory, where there is no fault
pub memory_rows : {X : Type 0} (text : Bool) (rows : List (Option (List ℕ))) (next : ColumnKind) (P : X → Type 0) (error : PolarsError) → write_fault text rows next ≡ None → Answers {X = X} (Err error) None P → AnswersRows text rows next (Err error)
memory_rows text rows next P (ComputeError cause) none told = let some = told.0 in absurd (cc)
memory_rows text rows next P (OutOfBounds cause) none told = let some = told.0 in absurd (cc)
memory_rows text rows next P NoMemory none told = none

-- the rows of slots that are texts are texts
text_of : (valid : Bool) (bytes : List ℕ) (slots : List Slot) → (is_well_formed_utf8 bytes && are_well_formed_utf8 (values_of slots)) ≡ true → are_well_formed_utf8 (given_rows (rows_of slots)) ≡ true → are_well_formed_utf8 (given_rows (rows_of (record { valid = valid; bytes = bytes } ∷ slots))) ≡ true
text_of true bytes slots all given = let both = both_hold (is_well_formed_utf8 bytes) (are_well_formed_utf8 (values_of slots)) all in rw (both.0, given) refl
text_of false bytes slots all given = given

pub given_texts : (slots : List Slot) → are_well_formed_utf8 (values_of slots) ≡ true → are_well_formed_utf8 (given_rows (rows_of slots)) ≡ true
given_texts [] texts = refl
given_texts (slot ∷ slots) texts =
    let both = both_hold (is_well_formed_utf8 slot.bytes) (are_well_formed_utf8 (values_of slots)) texts in
    text_of slot.valid slot.bytes slots texts (given_texts slots both.1)

pub rows_are_texts : (large : Bool) (rows : List (Option (List ℕ))) (new lists : OffsetLists) → lists ≡ new → AreSoundLists lists → offset_slots new ≡ slots_in (offset_kind large false) rows → are_well_formed_utf8 (given_rows rows) ≡ true → AreSoundTexts lists
rows_are_texts large rows new lists same sound slots given = record {
  sound = sound;
  texts =
      ap (λ (ss : List Slot). are_well_formed_utf8 (values_of ss)) (ap offset_slots same ∙ slots ∙ ap (λ (width : Option ℕ). map (slot_by width) rows) (widthless large false))
      ∙ row_texts [] rows refl given;
}

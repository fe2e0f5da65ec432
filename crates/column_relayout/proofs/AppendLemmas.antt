-- Rows after the slots of views, and of slots of one length.
use Rattle.std.proofs.Common.{◌≡◌, ℕ, ◌+◌, ◌*◌, ◌^◌, ◌<◌, ◌≤◌, Bool, true, false, List, [], ◌∷◌, ◌++◌, length, map, Option, Some, None, Err, refl, sym, ◌∙◌, ap, inr, arith, ℤ}
use Rattle.std.specs.Prelude.{nat_le, nat_lt}
use Rattle.std.specs.Int.{w64}
use Rattle.std.specs.List.{list_all}
use Rattle.std.proofs.Math.Nat.{le-mul_of_pos_right}
use Rattle.std.proofs.lemmas.List.{length-append, length-map}
use Rattle.std.proofs.lemmas.Bool.Decides.{nat_tests}
use Rattle.column_base.specs.declared.errors.Cause.{Cause}
use Rattle.column_base.specs.declared.errors.Cause.TheVariants.{InvalidUtf8, WrongLength, Overflow}
use Rattle.column_base.specs.declared.errors.PolarsError.{PolarsError}
use Rattle.column_base.specs.declared.errors.PolarsError.TheVariants.{ComputeError, OutOfBounds, NoMemory}
use Rattle.column_base.specs.Errors.{error_of}
use Rattle.column_base.specs.Answers.{cause_if}
use Rattle.column_base.specs.Kinds.{Slot}
use Rattle.column_base.specs.Kinds as kinds
use Rattle.column_base.specs.Native.{signed_bytes}
use Rattle.column_base.specs.Slots.{values_of}
use Rattle.column_storage.specs.Validity.{AreFlagsOf}
use Rattle.column_storage.specs.declared.data_buffers.TheConstants.{MAX_BUFFERS}
use Rattle.column_offset.specs.Text.{are_well_formed_utf8}
use Rattle.column_binary.specs.Rows.{slot_of}
use Rattle.column_view.specs.ViewFaults.{contents_fault}
use Rattle.column_binview.specs.Slots.{ViewLists, view_count, view_slots}
use Rattle.column_binview.proofs.TextsLemmas.{contents_fault-slots}
use Rattle.column_binview.specs.Builders.{written_rows}
use Rattle.column_binview.specs.Builders as views
use Rattle.column_fixed.specs.Slots.{FixedLists, fixed_slots}
use Rattle.column_fixed.specs.Rows.{is_of_width}
use Rattle.column_fixed.specs.Rows as fixed
use Rattle.column_primitive.specs.Numbers.{NumberArray, number_slots}
use Rattle.column_rows.specs.Rows.{given_rows, is_of_view}
use Rattle.column_rows.specs.Views.{AreAppended, Overflows}
use Rattle.column_relayout.specs.declared.steps.Step.TheVariants.{Append}
use Rattle.column_relayout.specs.Kinds.{view_kind}
use Rattle.column_relayout.specs.Columns.{RawLists, view_column, fixed_column, number_column, IsWellFormed}
use Rattle.column_relayout.specs.Written.{view_fault}
use Rattle.column_relayout.specs.Plans.{step_fault, slots_after}
use Rattle.column_relayout.specs.Steps.{StepsTo}
use Rattle.column_relayout.specs.Relayouts.{AnswersStep}
use Rattle.column_relayout.proofs.ColumnsLemmas.{views_are}
use Rattle.column_relayout.proofs.WrittenLemmas.{row_texts}
use Rattle.column_relayout.proofs.BuffersLemmas.{without_width}

-- ---- with views

row_same : (row : Option (List ℕ)) → views.slot_of row ≡ slot_of row
row_same None = refl
row_same (Some bytes) = refl

pub rows_same : (rows : List (Option (List ℕ))) → map views.slot_of rows ≡ map slot_of rows
rows_same [] = refl
rows_same (row ∷ rows) = ap (λ (slot : Slot). slot ∷ map views.slot_of rows) (row_same row) ∙ ap (λ (slots : List Slot). slot_of row ∷ slots) (rows_same rows)

pub view_rows_fault : (slots : List Slot) (rows : List (Option (List ℕ))) → step_fault (view_kind false) slots (Append rows) ≡ view_fault rows
unfolding step_fault
view_rows_fault slots rows = refl

pub text_rows_fault : (slots : List Slot) (rows : List (Option (List ℕ))) → are_well_formed_utf8 (given_rows rows) ≡ true → step_fault (view_kind true) slots (Append rows) ≡ view_fault rows
unfolding step_fault
text_rows_fault slots rows texts = rw texts refl

pub other_rows_fault : (slots : List Slot) (rows : List (Option (List ℕ))) → are_well_formed_utf8 (given_rows rows) ≡ false → step_fault (view_kind true) slots (Append rows) ≡ Some InvalidUtf8
unfolding step_fault
other_rows_fault slots rows texts = rw texts refl

pub viewed : (rows : List (Option (List ℕ))) → list_all is_of_view rows ≡ true → view_fault rows ≡ None
viewed rows all = rw all refl

pub not_viewed : (rows : List (Option (List ℕ))) → list_all is_of_view rows ≡ false → view_fault rows ≡ Some Overflow
not_viewed rows some = rw some refl

pub view_rows_steps : (text : Bool) (old new : ViewLists) (rows : List (Option (List ℕ))) → view_slots new ≡ view_slots old ++ map views.slot_of rows → AreAppended old rows new → IsWellFormed (view_column text new) → StepsTo (view_column text old) (Append rows) (view_column text new)
unfolding slots_after
view_rows_steps text old new rows slots appended formed = record {
  well_formed = formed;
  kind = refl;
  slots = rw (without_width text) (slots ∙ ap (λ (more : List Slot). view_slots old ++ more) (rows_same rows));
  laid = appended;
}

-- only the number of buffers refuses rows that views can tell
pub view_rows_refused : {X Y : Type 0} (shown : X → RawLists) (text : Bool) (old : ViewLists) (rows : List (Option (List ℕ))) (error : PolarsError) (P : Y → Type 0) → step_fault (view_kind text) (view_slots old) (Append rows) ≡ None → length old.buffers ≤ MAX_BUFFERS → Overflows {X = Y} (Err error) (MAX_BUFFERS < length old.buffers + length (written_rows rows)) P → AnswersStep {X = X} shown (view_column text old) (Append rows) (Err error)
view_rows_refused shown text old rows (ComputeError cause) P none few told =
    let same : (cause ≡ Overflow) × (error_of cause ≡ ComputeError cause) = only_overflow (ComputeError cause) cause refl told.0 in
    let past : MAX_BUFFERS < length old.buffers + length (written_rows rows) = told.1 in
    let written : 0 < length (written_rows rows) = omega (arith, past, few) in
    (inr (same.0, (none, rw (views_are text) written, rw (views_are text) past)), same.1)
  where
    only_overflow : (e : PolarsError) (c : Cause) → e ≡ ComputeError c → e ≡ error_of Overflow → (c ≡ Overflow) × (error_of c ≡ ComputeError c)
    only_overflow e c is over = let both = sym is ∙ over in let same : c ≡ Overflow = cc in (same, ap error_of same ∙ sym both)
view_rows_refused shown text old rows (OutOfBounds cause) P none few told = absurd (let is = told.0 in cc)
view_rows_refused shown text old rows NoMemory P none few told = none

-- the contents of views are texts where each slot is
pub contents_fine : (lists : ViewLists) → AreFlagsOf (view_count lists) lists.flags → are_well_formed_utf8 (values_of (view_slots lists)) ≡ true → contents_fault lists.views lists.buffers ≡ None
contents_fine lists flagged texts = contents_fault-slots lists flagged ∙ rw texts refl

-- text after text is text
pub texts_after : (old new : ViewLists) (rows : List (Option (List ℕ))) → view_slots new ≡ view_slots old ++ map views.slot_of rows → are_well_formed_utf8 (values_of (view_slots old)) ≡ true → are_well_formed_utf8 (given_rows rows) ≡ true → are_well_formed_utf8 (values_of (view_slots new)) ≡ true
texts_after old new rows slots texts given =
    ap (λ (ss : List Slot). are_well_formed_utf8 (values_of ss)) (slots ∙ ap (λ (more : List Slot). view_slots old ++ more) (rows_same rows))
    ∙ row_texts (view_slots old) rows texts given

pub texts_of : (new : ViewLists) (rows : List (Option (List ℕ))) → view_slots new ≡ map views.slot_of rows → are_well_formed_utf8 (given_rows rows) ≡ true → are_well_formed_utf8 (values_of (view_slots new)) ≡ true
texts_of new rows slots given =
    ap (λ (ss : List Slot). are_well_formed_utf8 (values_of ss)) (slots ∙ rows_same rows) ∙ row_texts [] rows refl given

-- ---- with a width

pub fixed_rows_fault : (width : ℕ) (slots : List Slot) (rows : List (Option (List ℕ))) → list_all (is_of_width width) rows ≡ true → step_fault (kinds.Fixed width) slots (Append rows) ≡ cause_if (nat_le (2 ^ 64) ((length slots + length rows) * width)) Overflow
unfolding step_fault
fixed_rows_fault width slots rows all =
    let size : length (slots ++ map (fixed.slot_of width) rows) ≡ length slots + length rows = length-append slots (map (fixed.slot_of width) rows) ∙ ap (λ (n : ℕ). length slots + n) (length-map rows (fixed.slot_of width)) in
    rw (all, size) refl

pub none_fits : (n width : ℕ) → 0 < width → 2 ^ 64 ≤ n → nat_lt (n * width) (2 ^ 64) ≡ false
none_fits n width some past =
    let more = le-mul_of_pos_right n some in
    let all : 2 ^ 64 ≤ n * width = omega (arith, past, more) in
    grind (arith, nat_tests)

pub fixed_rows_fine : (width : ℕ) (slots : List Slot) (rows : List (Option (List ℕ))) → list_all (is_of_width width) rows ≡ true → nat_lt ((length slots + length rows) * width) (2 ^ 64) ≡ true → step_fault (kinds.Fixed width) slots (Append rows) ≡ None
fixed_rows_fine width slots rows all room =
    let test : nat_le (2 ^ 64) ((length slots + length rows) * width) ≡ false = grind (arith, nat_tests) in
    fixed_rows_fault width slots rows all ∙ rw test refl

pub fixed_rows_full : (width : ℕ) (slots : List Slot) (rows : List (Option (List ℕ))) → list_all (is_of_width width) rows ≡ true → nat_lt ((length slots + length rows) * width) (2 ^ 64) ≡ false → step_fault (kinds.Fixed width) slots (Append rows) ≡ Some Overflow
fixed_rows_full width slots rows all room =
    let test : nat_le (2 ^ 64) ((length slots + length rows) * width) ≡ true = grind (arith, nat_tests) in
    fixed_rows_fault width slots rows all ∙ rw test refl

pub fixed_rows_wrong : (width : ℕ) (slots : List Slot) (rows : List (Option (List ℕ))) → list_all (is_of_width width) rows ≡ false → step_fault (kinds.Fixed width) slots (Append rows) ≡ Some WrongLength
unfolding step_fault
fixed_rows_wrong width slots rows some = rw some refl

pub fixed_rows_steps : (old new : FixedLists) (rows : List (Option (List ℕ))) → new.width ≡ old.width → fixed_slots new ≡ fixed_slots old ++ map (fixed.slot_of old.width) rows → IsWellFormed (fixed_column new) → StepsTo (fixed_column old) (Append rows) (fixed_column new)
unfolding slots_after
fixed_rows_steps old new rows width slots formed = record {
  well_formed = formed;
  kind = ap kinds.Fixed width;
  slots = slots;
  laid = tt;
}

pub number_rows_fault : (slots : List Slot) (rows : List (Option (List ℕ))) → list_all (is_of_width 8) rows ≡ true → step_fault kinds.Int64 slots (Append rows) ≡ None
unfolding step_fault
number_rows_fault slots rows all = rw all refl

pub number_rows_wrong : (slots : List Slot) (rows : List (Option (List ℕ))) → list_all (is_of_width 8) rows ≡ false → step_fault kinds.Int64 slots (Append rows) ≡ Some WrongLength
unfolding step_fault
number_rows_wrong slots rows some = rw some refl

pub number_rows_steps : (old new : NumberArray ℤ) (rows : List (Option (List ℕ))) → number_slots (signed_bytes w64) new.lists ≡ number_slots (signed_bytes w64) old.lists ++ map (fixed.slot_of 8) rows → IsWellFormed (number_column new) → StepsTo (number_column old) (Append rows) (number_column new)
unfolding slots_after
number_rows_steps old new rows slots formed = record {
  well_formed = formed;
  kind = refl;
  slots = slots;
  laid = tt;
}

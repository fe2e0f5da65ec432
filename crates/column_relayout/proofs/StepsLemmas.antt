-- One step, over the lists of a column.
use Rattle.std.proofs.Common.{◌≡◌, ℕ, ◌+◌, ◌-◌, ◌≤◌, Bool, true, false, not, nat_lt, List, ◌++◌, length, map, take, drop, Option, Some, None, Err, refl, sym, ◌∙◌, ap, subst, inl, arith}
use Rattle.std.specs.Prelude.{◌&&◌}
use Rattle.std.proofs.Math.Seq.{take-length}
use Rattle.std.proofs.lemmas.Bool.Decides.{nat_tests}
use Rattle.std.proofs.lemmas.List.{length-drop}
use Rattle.column_base.specs.declared.errors.Cause.TheVariants.{StepRange, WrongKind, InvalidUtf8, ViewIndex, BufferSlice}
use Rattle.column_base.specs.declared.errors.Cause.{Cause}
use Rattle.column_base.specs.declared.errors.PolarsError.{PolarsError}
use Rattle.column_base.specs.declared.errors.PolarsError.TheVariants.{ComputeError, OutOfBounds, NoMemory}
use Rattle.column_base.specs.Errors.{error_of}
use Rattle.column_base.specs.Integers.{greatest_offset}
use Rattle.column_base.specs.Kinds.{Slot, ColumnKind}
use Rattle.column_base.specs.Lists.{sublist}
use Rattle.column_base.specs.Answers.{Answers, AnswersFirst}
use Rattle.column_base.specs.Slots.{values_of, rows_of}
use Rattle.column_base.proofs.AnswersLemmas.{cause_none}
use Rattle.column_offset.specs.Text.{are_well_formed_utf8, texts_fault}
use Rattle.column_binary.specs.Rows.{slot_of}
use Rattle.column_binary.specs.Slots.{OffsetLists, offset_slots}
use Rattle.column_relayout.specs.declared.steps.Step.TheVariants.{Slice, Left, Right, ToUtf8, ToBinary, Append, Rebuild}
use Rattle.column_relayout.specs.declared.steps.Step.{Step}
use Rattle.column_relayout.specs.declared.kind.Kind.{Kind}
use Rattle.column_storage.specs.Validity.{AreFlagsOf}
use Rattle.column_view.specs.ViewFaults.{contents_fault}
use Rattle.column_binview.specs.Slots.{ViewLists, view_count, view_slots}
use Rattle.column_binview.proofs.TextsLemmas.{contents_fault-slots}
use Rattle.column_relayout.specs.Kinds.{kind_of, is_text, is_binary, offset_kind, view_kind}
use Rattle.column_relayout.specs.Columns.{RawLists, offset_column, view_column, column_kind, slots_of, count_of, part_of, IsWellFormed}
use Rattle.column_relayout.specs.Plans.{range_fault, step_fault, slots_after, light_step}
use Rattle.column_relayout.specs.Relayouts.{AnswersStep, StepAnswers}
use Rattle.column_relayout.specs.Steps.{StepsTo}
use Rattle.column_rows.specs.Rows.{given_rows}
use Rattle.column_relayout.specs.Written.{written_slots, bytes_fault, room_fault, has_no_width, written_lists}
use Rattle.column_relayout.proofs.WrittenLemmas.{written_mean}
use Rattle.column_relayout.proofs.ColumnsLemmas.{text_is, binary_is, no_views, widthless, to_text_kind, to_binary_kind, kind-part}

-- ---- parts of the slots

pub slice_fault : (kind : ColumnKind) (slots : List Slot) (from n : ℕ) → step_fault kind slots (Slice from n) ≡ range_fault (length slots) (from + n)
unfolding step_fault
slice_fault kind slots from n = refl

pub left_fault : (kind : ColumnKind) (slots : List Slot) (n : ℕ) → step_fault kind slots (Left n) ≡ range_fault (length slots) n
unfolding step_fault
left_fault kind slots n = refl

pub right_fault : (kind : ColumnKind) (slots : List Slot) (n : ℕ) → step_fault kind slots (Right n) ≡ range_fault (length slots) n
unfolding step_fault
right_fault kind slots n = refl

-- a range that ends within the slots
pub range_fits : (count end : ℕ) → end ≤ count → range_fault count end ≡ None
range_fits count end within = let inside : nat_lt count end ≡ false = grind (arith, nat_tests) in rw inside refl

pub within_range : (count end : ℕ) → range_fault count end ≡ None → end ≤ count
within_range count end none =
    let inside : nat_lt count end ≡ false = cause_none _ StepRange none in
    grind (arith, nat_tests)

pub slice_steps : (old new : RawLists) (from n : ℕ) → new ≡ part_of old from n → slots_of new ≡ sublist (slots_of old) from n → IsWellFormed new → StepsTo old (Slice from n) new
unfolding slots_after light_step
slice_steps old new from n is slots formed = record {
  well_formed = formed;
  kind = ap column_kind is ∙ kind-part old from n;
  slots = slots;
  laid = is;
}

pub left_steps : (old new : RawLists) (n : ℕ) → new ≡ part_of old 0 n → slots_of new ≡ sublist (slots_of old) 0 n → IsWellFormed new → StepsTo old (Left n) new
unfolding slots_after light_step
left_steps old new n is slots formed = record {
  well_formed = formed;
  kind = ap column_kind is ∙ kind-part old 0 n;
  slots = slots;
  laid = is;
}

pub right_steps : (old new : RawLists) (n : ℕ) → length (slots_of old) ≡ count_of old → new ≡ part_of old n (count_of old - n) → slots_of new ≡ sublist (slots_of old) n (count_of old - n) → IsWellFormed new → StepsTo old (Right n) new
unfolding slots_after light_step
right_steps old new n count is slots formed =
    let rest = length-drop n (slots_of old) in
    let all : count_of old - n ≡ length (drop n (slots_of old)) = omega arith in
    record {
      well_formed = formed;
      kind = ap column_kind is ∙ kind-part old n (count_of old - n);
      slots = slots ∙ ap (λ (k : ℕ). take k (drop n (slots_of old))) all ∙ take-length (drop n (slots_of old));
      laid = is;
    }

pub ruleset cut_laws = (slice_fault, left_fault, right_fault)

-- ---- conversions

pub to_utf8_fault : (large : Bool) (slots : List Slot) → step_fault (offset_kind large false) slots ToUtf8 ≡ texts_fault (values_of slots)
unfolding step_fault
to_utf8_fault large slots = rw (binary_is large, no_views large false) refl

pub to_binary_fault : (large : Bool) (slots : List Slot) → step_fault (offset_kind large true) slots ToBinary ≡ None
unfolding step_fault
to_binary_fault large slots = rw (text_is large true) refl

pub not_bytes : (kind : ColumnKind) (slots : List Slot) → is_binary kind ≡ false → step_fault kind slots ToUtf8 ≡ Some WrongKind
unfolding step_fault
not_bytes kind slots other = rw other refl

pub not_texts : (kind : ColumnKind) (slots : List Slot) → is_text kind ≡ false → step_fault kind slots ToBinary ≡ Some WrongKind
unfolding step_fault
not_texts kind slots other = rw other refl

pub to_utf8_steps : (large : Bool) (lists new : OffsetLists) → new ≡ lists → IsWellFormed (offset_column large true new) → StepsTo (offset_column large false lists) ToUtf8 (offset_column large true new)
unfolding slots_after light_step
to_utf8_steps large lists new same formed = record {
  well_formed = formed;
  kind = sym (to_text_kind large);
  slots = ap offset_slots same;
  laid = ap (offset_column large true) same;
}

pub to_binary_steps : (large : Bool) (lists new : OffsetLists) → new ≡ lists → IsWellFormed (offset_column large false new) → StepsTo (offset_column large true lists) ToBinary (offset_column large false new)
unfolding slots_after light_step
to_binary_steps large lists new same formed = record {
  well_formed = formed;
  kind = sym (to_binary_kind large);
  slots = ap offset_slots same;
  laid = ap (offset_column large false) same;
}

-- the same of views
pub view_to_utf8_fault : (lists : ViewLists) → AreFlagsOf (view_count lists) lists.flags → step_fault (view_kind false) (view_slots lists) ToUtf8 ≡ contents_fault lists.views lists.buffers
unfolding step_fault
view_to_utf8_fault lists all = sym (contents_fault-slots lists all)

pub view_to_binary_fault : (slots : List Slot) → step_fault (view_kind true) slots ToBinary ≡ None
unfolding step_fault
view_to_binary_fault slots = refl

pub view_to_utf8_steps : (lists new : ViewLists) → new ≡ lists → IsWellFormed (view_column true new) → StepsTo (view_column false lists) ToUtf8 (view_column true new)
unfolding slots_after light_step
view_to_utf8_steps lists new same formed = record {
  well_formed = formed;
  kind = refl;
  slots = ap view_slots same;
  laid = ap (view_column true) same;
}

pub view_to_binary_steps : (lists new : ViewLists) → new ≡ lists → IsWellFormed (view_column false new) → StepsTo (view_column true lists) ToBinary (view_column false new)
unfolding slots_after light_step
view_to_binary_steps lists new same formed = record {
  well_formed = formed;
  kind = refl;
  slots = ap view_slots same;
  laid = ap (view_column false) same;
}

pub ruleset kind_laws = (not_bytes, not_texts)

-- ---- slots that are written anew

room_is : (large text : Bool) (rows : List (Option (List ℕ))) (slots : List Slot) → room_fault (offset_kind large text) rows slots ≡ bytes_fault (Some (greatest_offset large)) slots
room_is false false rows slots = refl
room_is false true rows slots = refl
room_is true false rows slots = refl
room_is true true rows slots = refl

some_width : (large text : Bool) → has_no_width (offset_kind large text) ≡ false
some_width false false = refl
some_width false true = refl
some_width true false = refl
some_width true true = refl

pub append_fault : (large : Bool) (slots : List Slot) (rows : List (Option (List ℕ))) (greatest : ℕ) → greatest_offset large ≡ greatest → step_fault (offset_kind large false) slots (Append rows) ≡ bytes_fault (Some greatest) (slots ++ map slot_of rows)
unfolding step_fault
append_fault large slots rows greatest is = rw (text_is large false, widthless large false, room_is large false rows (slots ++ map slot_of rows), is) refl

pub append_texts_fault : (large : Bool) (slots : List Slot) (rows : List (Option (List ℕ))) (greatest : ℕ) → greatest_offset large ≡ greatest → are_well_formed_utf8 (given_rows rows) ≡ true → step_fault (offset_kind large true) slots (Append rows) ≡ bytes_fault (Some greatest) (slots ++ map slot_of rows)
unfolding step_fault
append_texts_fault large slots rows greatest is texts = rw (text_is large true, texts, widthless large true, room_is large true rows (slots ++ map slot_of rows), is) refl

pub append_no_texts : (large : Bool) (slots : List Slot) (rows : List (Option (List ℕ))) → are_well_formed_utf8 (given_rows rows) ≡ false → step_fault (offset_kind large true) slots (Append rows) ≡ Some InvalidUtf8
unfolding step_fault
append_no_texts large slots rows texts = rw (text_is large true, texts) refl

pub append_steps : (large text : Bool) (old new : OffsetLists) (rows : List (Option (List ℕ))) → new ≡ written_lists (offset_slots old ++ map slot_of rows) → IsWellFormed (offset_column large text new) → StepsTo (offset_column large text old) (Append rows) (offset_column large text new)
unfolding slots_after
append_steps large text old new rows is formed =
    let slots : offset_slots new ≡ offset_slots old ++ map slot_of rows = ap offset_slots is ∙ written_mean (offset_slots old ++ map slot_of rows) in
    record {
      well_formed = formed;
      kind = refl;
      slots = rw (widthless large text) slots;
      laid = is ∙ ap written_lists (sym slots);
    }

pub rebuild_fault : (large text wide texts : Bool) (slots : List Slot) (next : Kind) (greatest : ℕ) → kind_of next ≡ offset_kind wide texts → greatest_offset wide ≡ greatest → (texts && not text) ≡ false → step_fault (offset_kind large text) slots (Rebuild next) ≡ bytes_fault (Some greatest) (written_slots slots)
unfolding step_fault
rebuild_fault large text wide texts slots next greatest kind is may = rw (kind, some_width wide texts, text_is wide texts, text_is large text, may, widthless wide texts, room_is wide texts (rows_of slots) (written_slots slots), is) refl

-- no column but one of texts is written as texts
pub wrong_rebuild : (kind : ColumnKind) (slots : List Slot) (next : Kind) → is_text kind ≡ false → is_text (kind_of next) ≡ true → has_no_width (kind_of next) ≡ false → step_fault kind slots (Rebuild next) ≡ Some WrongKind
unfolding step_fault
wrong_rebuild kind slots next bytes texts wide = rw (wide, texts, bytes) refl

pub rebuild_steps : (large text wide texts : Bool) (old new : OffsetLists) (next : Kind) → kind_of next ≡ offset_kind wide texts → new ≡ written_lists (written_slots (offset_slots old)) → IsWellFormed (offset_column wide texts new) → StepsTo (offset_column large text old) (Rebuild next) (offset_column wide texts new)
unfolding slots_after
rebuild_steps large text wide texts old new next kind is formed =
    let slots : offset_slots new ≡ written_slots (offset_slots old) = ap offset_slots is ∙ written_mean (written_slots (offset_slots old)) in
    record {
      well_formed = formed;
      kind = sym kind;
      slots = rw (kind, widthless wide texts) slots;
      laid = is ∙ ap written_lists (sym slots);
    }

pub ruleset rebuild_faults = (text_is, wrong_rebuild)

-- ---- answers

-- a cause as an error is the step's answer
pub cause_answers : (old : RawLists) (step : Step) (cause : Cause) → step_fault (column_kind old) (slots_of old) step ≡ Some cause → StepAnswers old step (Err (error_of cause))
cause_answers old step ViewIndex fault = (inl fault, refl)
cause_answers old step BufferSlice fault = (inl fault, refl)
cause_answers old step cause fault = (inl fault, refl)

-- the refusal of a call that knows of no bound on buffers
pub refused_first : {X Y : Type 0} (lists : X → RawLists) (old : RawLists) (step : Step) (fault : Option Cause) (P : Y → Type 0) (error : PolarsError) → AnswersFirst {X = Y} (Err error) fault P → fault ≡ step_fault (column_kind old) (slots_of old) step → AnswersStep {X = X} lists old step (Err error)
refused_first lists old step fault P (ComputeError cause) answer same = (inl (sym same ∙ answer.0), answer.1)
refused_first lists old step fault P (OutOfBounds cause) answer same = (inl (sym same ∙ answer.0), answer.1)
refused_first lists old step fault P NoMemory answer same = sym same ∙ answer

-- a step without a fault, of a call that is refused for memory alone
pub refused_never : {X Y : Type 0} (lists : X → RawLists) (old : RawLists) (step : Step) (P : Y → Type 0) (error : PolarsError) → Answers {X = Y} (Err error) None P → step_fault (column_kind old) (slots_of old) step ≡ None → AnswersStep {X = X} lists old step (Err error)
refused_never lists old step P (ComputeError cause) answer none = let some = answer.0 in absurd (cc)
refused_never lists old step P (OutOfBounds cause) answer none = let some = answer.0 in absurd (cc)
refused_never lists old step P NoMemory answer none = none

pub error_answers : (old : RawLists) (step : Step) (cause : Cause) (error : PolarsError) → error ≡ error_of cause → step_fault (column_kind old) (slots_of old) step ≡ Some cause → StepAnswers old step (Err error)
error_answers old step cause error is fault = subst (λ (e : PolarsError). StepAnswers old step (Err e)) (sym is) (cause_answers old step cause fault)

pub ruleset answer_laws = (error_answers, cause_answers)

pub ruleset conversions = (to_utf8_fault, to_binary_fault, to_utf8_steps, to_binary_steps)

pub ruleset view_conversions = (view_to_utf8_fault, view_to_binary_fault, view_to_utf8_steps, view_to_binary_steps)

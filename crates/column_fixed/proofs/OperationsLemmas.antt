-- Laws of operations on a builder.
use Rattle.std.proofs.Common.{◌≡◌, ℕ, zero, suc, ◌+◌, ◌-◌, ◌/◌, ◌<◌, ◌≤◌, drop, get_or, List, [], ◌∷◌, ◌++◌, length, take, Option, Some, None, refl, sym, ◌∙◌, ap, arith}
use Rattle.std.specs.List.{fold}
use Rattle.std.proofs.lemmas.List.{take_more, drop_more, take-append-drop, take_all}
use Rattle.column_base.specs.Kinds.{Slot}
use Rattle.column_base.specs.Answers.{◌or_else◌}
use Rattle.column_base.specs.Pushes.{grown, growth_fault}
use Rattle.column_base.proofs.AnswersLemmas.{first_none}
use Rattle.column_fixed.specs.declared.operations.FixedOperation.{FixedOperation}
use Rattle.column_fixed.specs.declared.operations.FixedOperation.TheVariants.{Push, PushNull, Pop}
use Rattle.column_storage.specs.Slots.{flagged_slots}
use Rattle.column_fixed.specs.Slots.{FixedLists, fixed_count, fixed_slots, AreSoundFixed}
use Rattle.column_fixed.specs.Rows.{no_slots, slot_of, first_slots}
use Rattle.column_fixed.specs.Operations.{slots_after, lists_after, operation_fault, operation_growth}
use Rattle.column_fixed.proofs.RowsLemmas.{sound_row, slots-row, width-row, sound_first, slots-first}
use Rattle.column_fixed.proofs.SlotsLemmas.{count_of, length-fixed_slots, no_lists}

fewer : (n : ℕ) → n - 1 ≤ n
fewer n = omega arith

sound_after : (lists : FixedLists) (operation : FixedOperation) → AreSoundFixed lists → operation_fault lists operation ≡ None → AreSoundFixed (lists_after lists operation)
sound_after lists (Push bytes) sound none = sound_row lists (Some bytes.items) sound none
sound_after lists PushNull sound none = sound_row lists None sound refl
sound_after lists Pop sound none = sound_first lists (fixed_count lists - 1) sound (fewer (fixed_count lists))

width_after : (lists : FixedLists) (operation : FixedOperation) → (lists_after lists operation).width ≡ lists.width
unfolding first_slots
width_after lists (Push bytes) = refl
width_after lists PushNull = refl
width_after lists Pop = refl

slots_one : (lists : FixedLists) (operation : FixedOperation) → AreSoundFixed lists → operation_fault lists operation ≡ None → fixed_slots (lists_after lists operation) ≡ slots_after lists.width (fixed_slots lists) operation
slots_one lists (Push bytes) sound none = slots-row lists (Some bytes.items) sound none
slots_one lists PushNull sound none = slots-row lists None sound refl
slots_one lists Pop sound none =
    slots-first lists (fixed_count lists - 1) sound (fewer (fixed_count lists))
    ∙ ap (λ (n : ℕ). take (n - 1) (fixed_slots lists)) (sym (length-fixed_slots lists sound))

slots_all : (lists : FixedLists) (operations : List FixedOperation) → AreSoundFixed lists → growth_fault operation_growth lists operations ≡ None → fixed_slots (fold lists_after lists operations) ≡ fold (slots_after lists.width) (fixed_slots lists) operations
slots_all lists [] sound none = refl
slots_all lists (operation ∷ operations) sound none =
    let parts = first_none (operation_fault lists operation) (growth_fault operation_growth (lists_after lists operation) operations) none in
    slots_all (lists_after lists operation) operations (sound_after lists operation sound parts.0) parts.1
    ∙ ap (λ (w : ℕ). fold (slots_after w) (fixed_slots (lists_after lists operation)) operations) (width_after lists operation)
    ∙ ap (λ (slots : List Slot). fold (slots_after lists.width) slots operations) (slots_one lists operation sound parts.0)

none_slots : (width : ℕ) → 0 < width → fixed_slots (no_slots width) ≡ []
unfolding fixed_slots flagged_slots
none_slots width positive = let none : 0 / width ≡ 0 = count_of width 0 0 positive (omega arith) in rw none refl

-- the slots of what operations on no slots leave
pub replayed : (width : ℕ) (operations : List FixedOperation) (lists array : FixedLists) → 0 < width → growth_fault operation_growth (no_slots width) operations ≡ None
    → lists ≡ grown operation_growth (no_slots width) operations → array ≡ lists → fixed_slots array ≡ fold (slots_after width) [] operations
replayed width operations lists array positive none is same =
    ap fixed_slots (same ∙ is)
    ∙ slots_all (no_slots width) operations (no_lists width positive) none
    ∙ ap (λ (slots : List Slot). fold (slots_after width) slots operations) (none_slots width positive)

-- ---- a loop over a list

pub taken_more : {X : Type 0} (xs : List X) (i : ℕ) (x : X) → i < length xs → x ≡ get_or xs i x → take (i + 1) xs ≡ take i xs ++ x ∷ []
taken_more xs i x within is = take_more xs i x within ∙ ap (λ y. take i xs ++ y ∷ []) (sym is)

pub taken_at : {X : Type 0} (xs : List X) (i : ℕ) (x : X) → i < length xs → x ≡ get_or xs i x → xs ≡ take i xs ++ x ∷ drop (i + 1) xs
taken_at xs i x within is = sym (take-append-drop i xs) ∙ ap (λ ys. take i xs ++ ys) (drop_more xs i x within ∙ ap (λ y. y ∷ drop (i + 1) xs) (sym is))

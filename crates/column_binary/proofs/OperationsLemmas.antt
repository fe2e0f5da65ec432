-- Laws of operations on a builder.
use Rattle.std.proofs.Common.{◌≡◌, ℕ, zero, suc, ◌+◌, ◌-◌, ◌≤◌, ◌<◌, drop, get_or, List, [], ◌∷◌, ◌++◌, length, take, Option, Some, refl, sym, ◌∙◌, ap, arith}
use Rattle.std.specs.List.{fold}
use Rattle.std.proofs.lemmas.Int.{ints}
use Rattle.std.proofs.lemmas.List.{take_more, drop_more, take-append-drop}
use Rattle.column_base.specs.Kinds.{Slot}
use Rattle.column_base.specs.Pushes.{grown}
use Rattle.column_storage.specs.Slots.{flagged_slots}
use Rattle.column_binary.specs.declared.operations.BinaryOperation.{BinaryOperation}
use Rattle.column_binary.specs.declared.operations.BinaryOperation.TheVariants.{Push, PushNull, Pop}
use Rattle.column_binary.specs.Slots.{OffsetLists, slot_count, offset_slots}
use Rattle.column_binary.specs.Rows.{AreFullLists, no_slots, frozen_lists}
use Rattle.column_binary.specs.Operations.{slots_after, lists_after, operation_growth}
use Rattle.column_binary.proofs.FirstLemmas.{full_first, slots-first, slots-frozen}
use Rattle.column_binary.proofs.RowsLemmas.{full_row, slots-row}
use Rattle.column_binary.proofs.SlotsLemmas.{length-offset_slots}

fewer : (n : ℕ) → n - 1 ≤ n
fewer n = omega arith

module _ (null : Option (List ℕ)) where
  pub full_after : (lists : OffsetLists) (operation : BinaryOperation) → AreFullLists lists → AreFullLists (lists_after null lists operation)
  full_after lists (Push bytes) full = full_row lists (Some bytes.items) full
  full_after lists PushNull full = full_row lists null full
  full_after lists Pop full = full_first lists (slot_count lists - 1) full (fewer (slot_count lists))

  pub slots_one : (lists : OffsetLists) (operation : BinaryOperation) → AreFullLists lists → offset_slots (lists_after null lists operation) ≡ slots_after null (offset_slots lists) operation
  slots_one lists (Push bytes) full = slots-row lists (Some bytes.items) full
  slots_one lists PushNull full = slots-row lists null full
  slots_one lists Pop full =
      slots-first lists (slot_count lists - 1) full (fewer (slot_count lists))
      ∙ ap (λ (n : ℕ). take (n - 1) (offset_slots lists)) (sym (length-offset_slots lists full.sound))

  pub slots_all : (lists : OffsetLists) (operations : List BinaryOperation) → AreFullLists lists → offset_slots (fold (lists_after null) lists operations) ≡ fold (slots_after null) (offset_slots lists) operations
  slots_all lists [] full = refl
  slots_all lists (operation ∷ operations) full =
      slots_all (lists_after null lists operation) operations (full_after lists operation full)
      ∙ ap (λ (slots : List Slot). fold (slots_after null) slots operations) (slots_one lists operation full)

full_none : AreFullLists no_slots
full_none = record {
  sound = record {
    sound = record { not_empty = omega arith; starts = omega (arith, ints); never_falls = λ i below. absurd (omega arith) };
    within = omega (arith, ints);
    flagged = tt;
  };
  full = refl;
}

none_slots : offset_slots no_slots ≡ []
unfolding offset_slots flagged_slots
none_slots = refl

-- the slots of what operations on no slots leave
pub replayed : (null : Option (List ℕ)) (greatest : ℕ) (operations : List BinaryOperation) (lists : OffsetLists) → lists ≡ grown (operation_growth null greatest) no_slots operations → offset_slots lists ≡ fold (slots_after null) [] operations
replayed null greatest operations lists is =
    ap offset_slots is
    ∙ slots_all null no_slots operations full_none
    ∙ ap (λ (slots : List Slot). fold (slots_after null) slots operations) none_slots

pub replayed_frozen : (null : Option (List ℕ)) (greatest : ℕ) (operations : List BinaryOperation) (lists frozen : OffsetLists) → AreFullLists lists → lists ≡ grown (operation_growth null greatest) no_slots operations → frozen ≡ frozen_lists lists → offset_slots frozen ≡ fold (slots_after null) [] operations
replayed_frozen null greatest operations lists frozen full is same =
    ap offset_slots same ∙ slots-frozen lists full.sound ∙ replayed null greatest operations lists is

-- ---- a loop over a list

pub taken_more : {X : Type 0} (xs : List X) (i : ℕ) (x : X) → i < length xs → x ≡ get_or xs i x → take (i + 1) xs ≡ take i xs ++ x ∷ []
taken_more xs i x within is = take_more xs i x within ∙ ap (λ y. take i xs ++ y ∷ []) (sym is)

pub taken_at : {X : Type 0} (xs : List X) (i : ℕ) (x : X) → i < length xs → x ≡ get_or xs i x → xs ≡ take i xs ++ x ∷ drop (i + 1) xs
taken_at xs i x within is = sym (take-append-drop i xs) ∙ ap (λ ys. take i xs ++ ys) (drop_more xs i x within ∙ ap (λ y. y ∷ drop (i + 1) xs) (sym is))

pub taken_all : {X : Type 0} (xs : List X) (i : ℕ) → length xs ≤ i → take i xs ≡ xs
taken_all [] zero within = refl
taken_all [] (suc i) within = refl
taken_all (x ∷ xs) zero within = absurd (omega arith)
taken_all (x ∷ xs) (suc i) within = ap (λ ys. x ∷ ys) (taken_all xs i (omega arith))

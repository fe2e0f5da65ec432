-- Laws of operations on a builder.
use Rattle.std.proofs.Common.{◌≡◌, ℕ, zero, suc, ◌+◌, ◌-◌, ◌≤◌, ◌<◌, get_or, List, [], ◌∷◌, ◌++◌, length, take, Some, None, refl, sym, ◌∙◌, ap, arith}
use Rattle.std.specs.Prelude.{true, false}
use Rattle.std.specs.List.{fold}
use Rattle.std.proofs.lemmas.List.{take_more}
use Rattle.column_base.specs.declared.datatypes.ArrowDataType.{ArrowDataType}
use Rattle.column_base.specs.Kinds.{Slot}
use Rattle.column_base.specs.Pushes.{grown}
use Rattle.column_base.proofs.PushesLemmas.{grown-one}
use Rattle.column_storage.specs.Slots.{flagged_slots}
use Rattle.column_primitive.specs.declared.operations.NumberOperation.{NumberOperation}
use Rattle.column_primitive.specs.declared.operations.NumberOperation.TheVariants.{Push, PushNull, Pop}
use Rattle.column_primitive.specs.Numbers.{NumberArray, number_count, number_slots, AreSoundNumbers}
use Rattle.column_primitive.specs.Rows.{no_numbers, frozen_array}
use Rattle.column_primitive.specs.Operations.{slots_after, array_after, operation_growth}
use Rattle.column_primitive.proofs.NumbersLemmas.{length-number_slots}
use Rattle.column_primitive.proofs.RowsLemmas.{sound_more, sound_first, slots-pushed, slots-first, slots-frozen}

module _ {T : Type 0} (bytes : T → List ℕ) (null : T) where
  sound_after : (array : NumberArray T) (operation : NumberOperation T) → AreSoundNumbers array.lists → AreSoundNumbers (array_after null array operation).lists
  sound_after array (Push value) sound = sound_more array.lists value true sound
  sound_after array PushNull sound = sound_more array.lists null false sound
  sound_after array Pop sound = sound_first array.lists (number_count array.lists - 1) sound (omega arith)

  slots_one : (array : NumberArray T) (operation : NumberOperation T) → AreSoundNumbers array.lists → number_slots bytes (array_after null array operation).lists ≡ slots_after bytes null (number_slots bytes array.lists) operation
  slots_one array (Push value) sound = slots-pushed bytes null array (Some value) sound
  slots_one array PushNull sound = slots-pushed bytes null array None sound
  slots_one array Pop sound =
      slots-first bytes array.lists (number_count array.lists - 1) (omega arith)
      ∙ ap (λ (n : ℕ). take (n - 1) (number_slots bytes array.lists)) (sym (length-number_slots bytes array.lists sound))

  slots_all : (array : NumberArray T) (operations : List (NumberOperation T)) → AreSoundNumbers array.lists → number_slots bytes (fold (array_after null) array operations).lists ≡ fold (slots_after bytes null) (number_slots bytes array.lists) operations
  slots_all array [] sound = refl
  slots_all array (operation ∷ operations) sound =
      slots_all (array_after null array operation) operations (sound_after array operation sound)
      ∙ ap (λ (slots : List Slot). fold (slots_after bytes null) slots operations) (slots_one array operation sound)

  no_slots : (dtype : ArrowDataType) → number_slots bytes (no_numbers {T = T} dtype).lists ≡ []
  unfolding number_slots flagged_slots
  no_slots dtype = refl

  -- the slots of what operations on no slots leave, and of the array that is made of it
  pub replayed : (dtype : ArrowDataType) (operations : List (NumberOperation T)) (array frozen : NumberArray T) → AreSoundNumbers array.lists → array ≡ grown (operation_growth null) (no_numbers dtype) operations → frozen ≡ frozen_array array → number_slots bytes frozen.lists ≡ fold (slots_after bytes null) [] operations
  replayed dtype operations array frozen sound is same =
      ap (λ (a : NumberArray T). number_slots bytes a.lists) same
      ∙ slots-frozen bytes array.lists sound
      ∙ ap (λ (a : NumberArray T). number_slots bytes a.lists) is
      ∙ slots_all (no_numbers dtype) operations (record { flagged = tt })
      ∙ ap (λ (slots : List Slot). fold (slots_after bytes null) slots operations) (no_slots dtype)

-- ---- a loop over a list

pub replayed_more : {T : Type 0} (null : T) (empty array next : NumberArray T) (operations : List (NumberOperation T)) (i : ℕ) (operation : NumberOperation T) → i < length operations → operation ≡ get_or operations i operation
    → array ≡ grown (operation_growth null) empty (take i operations) → next ≡ array_after null array operation → next ≡ grown (operation_growth null) empty (take (i + 1) operations)
replayed_more null empty array next operations i operation within at is step =
    step
    ∙ ap (λ a. array_after null a operation) is
    ∙ sym (grown-one (operation_growth null) empty (take i operations) operation)
    ∙ ap (grown (operation_growth null) empty) (sym (take_more operations i operation within ∙ ap (λ y. take i operations ++ y ∷ []) (sym at)))

pub taken_all : {X : Type 0} (xs : List X) (i : ℕ) → length xs ≤ i → take i xs ≡ xs
taken_all [] zero within = refl
taken_all [] (suc i) within = refl
taken_all (x ∷ xs) zero within = absurd (omega arith)
taken_all (x ∷ xs) (suc i) within = ap (λ ys. x ∷ ys) (taken_all xs i (omega arith))

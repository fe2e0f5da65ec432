-- Laws of operations on a builder.
use Rattle.std.proofs.Common.{◌≡◌, ℕ, ◌+◌, ◌<◌, false, List, [], ◌∷◌, ◌++◌, length, take, drop, get_or, Some, None, refl, sym, ◌∙◌, ap}
use Rattle.std.specs.List.{fold}
use Rattle.std.proofs.lemmas.List.{take_more, drop_more, take-append-drop}
use Rattle.column_base.specs.declared.errors.Cause.{Cause}
use Rattle.column_base.specs.Kinds.{Slot}
use Rattle.column_base.specs.Pushes.{grown, growth_fault}
use Rattle.column_base.proofs.PushesLemmas.{Stands, stands_more, stands_refused}
use Rattle.column_view.proofs.FaultsLemmas.{first_none, rest_none}
use Rattle.column_binview.specs.declared.operations.ViewOperation.{ViewOperation}
use Rattle.column_binview.specs.declared.operations.ViewOperation.TheVariants.{Push, PushNull, Repeat}
use Rattle.column_binview.specs.Slots.{ViewLists, view_slots}
use Rattle.column_binview.specs.Builders.{ViewBuilder, lists_of, no_slots, IsSoundBuilder}
use Rattle.column_binview.specs.Operations.{slots_after, builder_after, operation_fault, operation_growth}
use Rattle.column_binview.proofs.BuildersLemmas.{sound-no_slots, sound-row, appends-row}
use Rattle.column_binview.proofs.ChangesLemmas.{sound-extended_value, appends-extended}
use Rattle.column_binview.proofs.GatheredLemmas.{no_view_slots}

module _ {V : Type 0} (shown : V → List ℕ) where
  sound_one : (builder : ViewBuilder) (operation : ViewOperation V) → IsSoundBuilder false builder → operation_fault shown builder operation ≡ None → IsSoundBuilder false (builder_after shown builder operation)
  sound_one builder (Push value) sound fine = sound-row builder (Some (shown value)) sound fine
  sound_one builder PushNull sound fine = sound-row builder None sound refl
  sound_one builder (Repeat n value) sound fine = sound-extended_value false builder n (shown value) sound (λ is. absurd (cc)) fine

  slots_one : (builder : ViewBuilder) (operation : ViewOperation V) → IsSoundBuilder false builder → operation_fault shown builder operation ≡ None → view_slots (lists_of (builder_after shown builder operation)) ≡ slots_after shown (view_slots (lists_of builder)) operation
  slots_one builder (Push value) sound fine = (appends-row builder (Some (shown value)) sound fine).slots
  slots_one builder PushNull sound fine = (appends-row builder None sound refl).slots
  slots_one builder (Repeat n value) sound fine = (appends-extended false builder n (Some (shown value)) sound fine).slots

  slots_all : (builder : ViewBuilder) (operations : List (ViewOperation V)) → IsSoundBuilder false builder → growth_fault (operation_growth shown) builder operations ≡ None → view_slots (lists_of (grown (operation_growth shown) builder operations)) ≡ fold (slots_after shown) (view_slots (lists_of builder)) operations
  slots_all builder [] sound fine = refl
  slots_all builder (operation ∷ operations) sound fine =
      let next = builder_after shown builder operation in
      let one = first_none (operation_fault shown builder operation) (growth_fault (operation_growth shown) next operations) fine in
      let rest = rest_none (operation_fault shown builder operation) (growth_fault (operation_growth shown) next operations) fine in
      slots_all next operations (sound_one builder operation sound one) rest
      ∙ ap (λ (slots : List Slot). fold (slots_after shown) slots operations) (slots_one builder operation sound one)

  -- the slots of what operations on no slots leave
  pub replayed : (operations : List (ViewOperation V)) (builder : ViewBuilder) (array : ViewLists) → Stands (operation_growth shown) no_slots builder operations → array ≡ lists_of builder → view_slots array ≡ fold (slots_after shown) [] operations
  replayed operations builder array at is =
      ap view_slots (is ∙ ap lists_of at.is)
      ∙ slots_all no_slots operations (sound-no_slots false) at.fine
      ∙ ap (λ (slots : List Slot). fold (slots_after shown) slots operations) no_view_slots

  -- ---- one operation after another

  pub operation_more : (builder next : ViewBuilder) (operations : List (ViewOperation V)) (i : ℕ) (operation : ViewOperation V) → Stands (operation_growth shown) no_slots builder (take i operations) → i < length operations → operation ≡ get_or operations i operation
      → operation_fault shown builder operation ≡ None → next ≡ builder_after shown builder operation → Stands (operation_growth shown) no_slots next (take (i + 1) operations)
  operation_more builder next operations i operation at within is fine next_is =
      rw (take_more operations i operation within ∙ ap (λ o. take i operations ++ o ∷ []) (sym is))
      (stands_more (operation_growth shown) no_slots builder next (take i operations) operation at fine next_is)

  pub operation_refused : (builder : ViewBuilder) (operations : List (ViewOperation V)) (i : ℕ) (operation : ViewOperation V) (cause : Cause) → Stands (operation_growth shown) no_slots builder (take i operations) → i < length operations → operation ≡ get_or operations i operation
      → operation_fault shown builder operation ≡ Some cause → growth_fault (operation_growth shown) no_slots operations ≡ Some cause
  operation_refused builder operations i operation cause at within is fault =
      ap (growth_fault (operation_growth shown) no_slots)
      (sym (take-append-drop i operations) ∙ ap (λ rest. take i operations ++ rest) (drop_more operations i operation within ∙ ap (λ o. o ∷ drop (i + 1) operations) (sym is)))
      ∙ stands_refused (operation_growth shown) no_slots builder (take i operations) (drop (i + 1) operations) operation cause at fault

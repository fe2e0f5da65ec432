-- Laws of operations on a builder.
use Rattle.std.proofs.Common.{◌≡◌, ℕ, ◌-◌, ◌≤◌, List, [], ◌∷◌, take, Some, None, refl, sym, ◌∙◌, ap, arith}
use Rattle.std.specs.List.{fold}
use Rattle.column_base.specs.Kinds.{Slot}
use Rattle.column_storage.specs.Slots.{flagged_slots}
use Rattle.column_boolean.specs.declared.operations.BooleanOperation.{BooleanOperation}
use Rattle.column_boolean.specs.declared.operations.BooleanOperation.TheVariants.{Push, PushNull, Pop}
use Rattle.column_boolean.specs.Slots.{BooleanLists, boolean_count, boolean_slots, AreSoundBooleans}
use Rattle.column_boolean.specs.Rows.{no_slots, frozen_lists}
use Rattle.column_boolean.specs.Operations.{slots_after, lists_after}
use Rattle.column_boolean.proofs.SlotsLemmas.{length-boolean_slots}
use Rattle.column_boolean.proofs.RowsLemmas.{sound_row, sound_first, slots-row, slots-first, slots-frozen}

fewer : (n : ℕ) → n - 1 ≤ n
fewer n = omega arith

sound_after : (lists : BooleanLists) (operation : BooleanOperation) → AreSoundBooleans lists → AreSoundBooleans (lists_after lists operation)
sound_after lists (Push value) sound = sound_row lists (Some value) sound
sound_after lists PushNull sound = sound_row lists None sound
sound_after lists Pop sound = sound_first lists (boolean_count lists - 1) sound (fewer (boolean_count lists))

slots_one : (lists : BooleanLists) (operation : BooleanOperation) → AreSoundBooleans lists → boolean_slots (lists_after lists operation) ≡ slots_after (boolean_slots lists) operation
slots_one lists (Push value) sound = slots-row lists (Some value) sound
slots_one lists PushNull sound = slots-row lists None sound
slots_one lists Pop sound =
    slots-first lists (boolean_count lists - 1) (fewer (boolean_count lists))
    ∙ ap (λ (n : ℕ). take (n - 1) (boolean_slots lists)) (sym (length-boolean_slots lists sound))

slots_all : (lists : BooleanLists) (operations : List BooleanOperation) → AreSoundBooleans lists → boolean_slots (fold lists_after lists operations) ≡ fold slots_after (boolean_slots lists) operations
slots_all lists [] sound = refl
slots_all lists (operation ∷ operations) sound =
    slots_all (lists_after lists operation) operations (sound_after lists operation sound)
    ∙ ap (λ (slots : List Slot). fold slots_after slots operations) (slots_one lists operation sound)

none_slots : boolean_slots no_slots ≡ []
unfolding boolean_slots flagged_slots
none_slots = refl

-- the slots of what operations on no slots leave, and of the array that is made of it
pub replayed : (operations : List BooleanOperation) (lists array : BooleanLists) → AreSoundBooleans lists → lists ≡ fold lists_after no_slots operations → array ≡ frozen_lists lists → boolean_slots array ≡ fold slots_after [] operations
replayed operations lists array sound is same =
    ap boolean_slots same
    ∙ slots-frozen lists sound
    ∙ ap boolean_slots is
    ∙ slots_all no_slots operations (record { flagged = tt })
    ∙ ap (λ (slots : List Slot). fold slots_after slots operations) none_slots

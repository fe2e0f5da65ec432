-- Steps with another number of arguments than theirs.
use Rattle.std.proofs.Common.{ℕ, ◌≡◌, ◌≢◌, List, [], ◌∷◌, length, Option, None, refl}
use Rattle.serde_json.specs.Data.{Data}
use Rattle.serde_json.specs.declared.value.Value.{Value}
use Rattle.serde_json.specs.View.{items_view}
use Rattle.column_relayout.specs.declared.steps.Step.{Step}
use Rattle.column_document.specs.Steps.{no_arguments, one_argument, two_numbers}

pub other_than_none : (step : Step) → (arguments : List Value) → length arguments ≢ 0 → no_arguments step (items_view arguments) ≡ None
other_than_none step [] other = absurd (other refl)
other_than_none step (a ∷ rest) other = refl

pub other_than_one : {T : Type 0} → (of : Data → Option T) → (step : T → Step) → (arguments : List Value) → length arguments ≢ 1 → one_argument of step (items_view arguments) ≡ None
other_than_one of step [] other = refl
other_than_one of step (a ∷ []) other = absurd (other refl)
other_than_one of step (a ∷ b ∷ rest) other = refl

pub other_than_two : (step : ℕ → ℕ → Step) → (arguments : List Value) → length arguments ≢ 2 → two_numbers step (items_view arguments) ≡ None
other_than_two step [] other = refl
other_than_two step (a ∷ []) other = refl
other_than_two step (a ∷ b ∷ []) other = absurd (other refl)
other_than_two step (a ∷ b ∷ c ∷ rest) other = refl

-- Rows that are pushed to lists of one width, of which none is refused.
use Rattle.std.proofs.Common.{◌≡◌, ℕ, ◌*◌, ◌/◌, ◌<◌, not, true, List, [], ◌++◌, map, Option, None, Result, ◌∙◌, ap, arith}
use Rattle.std.specs.List.{list_all}
use Rattle.std.specs.Simd.{first_chunks}
use Rattle.std.proofs.Math.Nat.{mul-div_cancel}
use Rattle.std.proofs.lemmas.List.{map-id}
use Rattle.column_base.specs.declared.errors.Cause.TheVariants.{WrongLength}
use Rattle.column_base.specs.declared.errors.PolarsError.{PolarsError}
use Rattle.column_base.specs.Answers.{Answers, cause_if}
use Rattle.column_base.specs.Kinds.{Slot}
use Rattle.column_base.specs.Pushes.{grown, growth_fault}
use Rattle.column_base.proofs.PushesLemmas.{answers_weaker}
use Rattle.column_storage.specs.Slots.{flagged_slots}
use Rattle.column_fixed.specs.Slots.{FixedLists, fixed_slots}
use Rattle.column_fixed.specs.Rows.{no_slots, row_growth, slot_of, is_of_width}

-- rows of the width are pushed, and add their slots
pub rows_added : (result : Result (Unit {0}) PolarsError) (old new : FixedLists) (rows : List (Option (List ℕ)))
    → list_all (is_of_width old.width) rows ≡ true
    → growth_fault row_growth old rows ≡ cause_if (not (list_all (is_of_width old.width) rows)) WrongLength
    → (grown row_growth old rows).width ≡ old.width
    → (growth_fault row_growth old rows ≡ None → fixed_slots (grown row_growth old rows) ≡ fixed_slots old ++ map (slot_of old.width) rows)
    → Answers result (growth_fault row_growth old (map (λ row. row) rows)) (λ _. new ≡ grown row_growth old (map (λ row. row) rows))
    → Answers result None (λ _. (new.width ≡ old.width) × (fixed_slots new ≡ fixed_slots old ++ map (slot_of old.width) rows))
rows_added result old new rows fit fault width slots told =
    let none : growth_fault row_growth old rows ≡ None = fault ∙ ap (λ b. cause_if (not b) WrongLength) fit in
    let same = map-id rows in
    answers_weaker result (growth_fault row_growth old (map (λ row. row) rows)) None _ _ (ap (growth_fault row_growth old) same ∙ none)
    (λ _ is. let now = is ∙ ap (grown row_growth old) same in (ap (λ (lists : FixedLists). lists.width) now ∙ width, ap fixed_slots now ∙ slots none))
    told

-- lists without slots
pub none_are : (width : ℕ) → 0 < width → fixed_slots (no_slots width) ≡ []
unfolding fixed_slots flagged_slots
none_are width positive =
    let none : 0 ≡ 0 * width = omega arith in
    let count : 0 / width ≡ 0 = ap (λ (n : ℕ). n / width) none ∙ mul-div_cancel 0 positive in
    ap (λ (n : ℕ). flagged_slots None (first_chunks width n [])) count

-- the array of rows that were added to lists without slots
pub rows_made : (width : ℕ) (rows : List (Option (List ℕ))) (old new made : FixedLists) → 0 < width → old ≡ no_slots width
    → (new.width ≡ old.width) × (fixed_slots new ≡ fixed_slots old ++ map (slot_of old.width) rows) → made ≡ new
    → (made.width ≡ width) × (fixed_slots made ≡ map (slot_of width) rows)
rows_made width rows old new made positive start added frozen = (
  ap (λ (lists : FixedLists). lists.width) frozen ∙ added.0 ∙ ap (λ (lists : FixedLists). lists.width) start,
  ap fixed_slots frozen
      ∙ added.1
      ∙ ap (λ (lists : FixedLists). fixed_slots lists ++ map (slot_of lists.width) rows) start
      ∙ ap (λ (slots : List Slot). slots ++ map (slot_of width) rows) (none_are width positive),
)

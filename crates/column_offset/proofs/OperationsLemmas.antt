-- Laws of operations on growing offsets.
use Rattle.std.proofs.Common.{◌≡◌, ℕ, ◌+◌, ◌-◌, ◌<◌, ℤ, pos, List, [], ◌∷◌, ◌++◌, length, get_or, take, drop, sym, ◌∙◌, ap, subst, arith, length-append}
use Rattle.std.specs.Prelude.{◌+ℤ◌, sum, MatchOption, Option, Some, None, Result}
use Rattle.std.proofs.lemmas.Int.{ints}
use Rattle.std.proofs.lemmas.List.{drop_more, take_all}
use Rattle.std.proofs.Math.Seq.{take-append_seam}
use Rattle.std.specs.List.{fold}
use Rattle.column_base.specs.declared.errors.PolarsError.{PolarsError}
use Rattle.column_base.specs.declared.errors.Cause.{Cause}
use Rattle.column_base.specs.Answers.{Answers, ◌or_else◌}
use Rattle.column_offset.specs.declared.operations.OffsetsOperation.{OffsetsOperation}
use Rattle.column_offset.specs.declared.operations.OffsetsOperation.TheVariants.{Push}
use Rattle.column_offset.specs.Offsets.{last_of}
use Rattle.column_offset.specs.Growth.{pushed, extended, limit_fault}
use Rattle.column_offset.specs.Operations.{lengths_after, operation_fault, operations_fault}
use Rattle.column_offset.proofs.GrowthLemmas.{extended-snoc, last_of-extended, take-extended, length-extended}

-- ---- one operation

pushed_to : (lengths : List ℕ) (n : ℕ) → last_of (extended (pos 0 ∷ []) lengths) +ℤ pos n ≡ pos (sum lengths + n)
pushed_to lengths n = rw (last_of-extended (pos 0 ∷ []) lengths) (omega (arith, ints))

-- what a push answers, and leaves
pub push_answers : (greatest : ℕ) (result : Result (Unit {0}) PolarsError) (lengths : List ℕ) (old new : List ℤ) (n : ℕ) → old ≡ extended (pos 0 ∷ []) lengths
    → Answers result (limit_fault greatest (last_of old +ℤ pos n)) (λ _. new ≡ pushed old n)
    → Answers result (operation_fault greatest lengths (Push n)) (λ _. new ≡ extended (pos 0 ∷ []) (lengths_after lengths (Push n)))
push_answers greatest result lengths old new n is answer =
    let from = extended (pos 0 ∷ []) lengths in
    let here = subst (λ (o : List ℤ). Answers result (limit_fault greatest (last_of o +ℤ pos n)) (λ _. new ≡ pushed o n)) is answer in
    let fault = subst (λ (z : ℤ). Answers result (limit_fault greatest z) (λ _. new ≡ pushed from n)) (pushed_to lengths n) here in
    subst (λ (o : List ℤ). Answers result (limit_fault greatest (pos (sum lengths + n))) (λ _. new ≡ o)) (sym (extended-snoc (pos 0 ∷ []) lengths n)) fault

-- what a pop leaves
pub popped_of : {X : Type 0} (f : X → ℤ) (result : Option X) (lengths : List ℕ) (old new : List ℤ) → old ≡ extended (pos 0 ∷ []) lengths
    → MatchOption result ((length old ≡ 1) × (new ≡ old)) (λ last. (1 < length old) × (old ≡ new ++ f last ∷ []))
    → new ≡ extended (pos 0 ∷ []) (take (length lengths - 1) lengths)
popped_of f None lengths old new is popped =
    let one = popped.0 in
    let count : length old ≡ 1 + length lengths = ap length is ∙ length-extended (pos 0 ∷ []) lengths in
    let all : take (length lengths - 1) lengths ≡ lengths = take_all (length lengths - 1) lengths (omega arith) in
    rw all (popped.1 ∙ is)
popped_of f (Some last) lengths old new is popped =
    let some = popped.0 in
    let count : length old ≡ 1 + length lengths = ap length is ∙ length-extended (pos 0 ∷ []) lengths in
    let one : length old ≡ length new + 1 = ap length popped.1 ∙ length-append new (f last ∷ []) in
    let e : length new ≡ 1 + (length lengths - 1) = omega arith in
    sym (take-append_seam new (f last ∷ [])) ∙ ap (take (length new)) (sym popped.1 ∙ is) ∙ ap (λ k. take k (extended (pos 0 ∷ []) lengths)) e
    ∙ take-extended (length lengths - 1) (pos 0 ∷ []) lengths

-- ---- the loop

-- what a loop over operations keeps: the offsets are those of lengths, and the operations that are left do to these what
-- all do to none
pub record Replays (greatest : ℕ) (all : List OffsetsOperation) (i : ℕ) (offsets : List ℤ) : Type 0 where
  pub lengths : List ℕ
  pub made : offsets ≡ extended (pos 0 ∷ []) lengths
  pub left : fold lengths_after lengths (drop i all) ≡ fold lengths_after [] all
  pub fault : operations_fault greatest lengths (drop i all) ≡ operations_fault greatest [] all

-- one operation on
pub replays_more : (greatest : ℕ) (all : List OffsetsOperation) (i : ℕ) (offsets new : List ℤ) (d : OffsetsOperation) (at : Replays greatest all i offsets) → i < length all
    → operation_fault greatest at.lengths (get_or all i d) ≡ None → new ≡ extended (pos 0 ∷ []) (lengths_after at.lengths (get_or all i d)) → Replays greatest all (i + 1) new
replays_more greatest all i offsets new d at within fine made =
    let here = drop_more all i d within in
    let next = lengths_after at.lengths (get_or all i d) in
    record {
      lengths = next;
      made = made;
      left = ap (fold lengths_after at.lengths) (sym here) ∙ at.left;
      fault = ap (λ (first : Option Cause). first or_else operations_fault greatest next (drop (i + 1) all)) (sym fine) ∙ ap (operations_fault greatest at.lengths) (sym here) ∙ at.fault;
    }

-- one that is refused is the first
pub replays_refused : (greatest : ℕ) (all : List OffsetsOperation) (i : ℕ) (offsets : List ℤ) (d : OffsetsOperation) (cause : Cause) (at : Replays greatest all i offsets) → i < length all
    → operation_fault greatest at.lengths (get_or all i d) ≡ Some cause → operations_fault greatest [] all ≡ Some cause
replays_refused greatest all i offsets d cause at within fault =
    sym at.fault ∙ ap (operations_fault greatest at.lengths) (drop_more all i d within)
    ∙ ap (λ (first : Option Cause). first or_else operations_fault greatest (lengths_after at.lengths (get_or all i d)) (drop (i + 1) all)) fault

-- Offsets that grow, slot by slot.
use Rattle.std.specs.Prelude.{◌≡◌, ℕ, ◌-◌, ℤ, pos, ◌+ℤ◌, int_lt, List, [], ◌∷◌, ◌++◌, sum, Option, Result, MatchResult}
use Rattle.std.specs.List.{fold}
use Rattle.std.specs.Iterator.{Yields, Drains}
use Rattle.column_base.specs.declared.errors.Cause.{Cause}
use Rattle.column_base.specs.declared.errors.Cause.TheVariants.{Overflow}
use Rattle.column_base.specs.declared.errors.PolarsError.{PolarsError}
use Rattle.column_base.specs.Answers.{cause_if, Answers}
use Rattle.column_offset.specs.Offsets.{nat_of, last_of}

-- This library's own: growing offsets, and how many more slots they take without further memory.
pub record GrowingOffsets : Type 0 where
  pub offsets : List ℤ
  pub spare : ℕ

-- the offsets with one more slot, of this length
abbrev pub pushed : List ℤ → ℕ → List ℤ
pushed offsets length = offsets ++ (last_of offsets +ℤ pos length) ∷ []

-- the offsets with further slots, of these lengths
abbrev pub extended : List ℤ → List ℕ → List ℤ
extended offsets lengths = fold pushed offsets lengths

-- the lengths of the slots
abbrev pub lengths_of : List ℤ → List ℕ
lengths_of [] = []
lengths_of (start ∷ []) = []
lengths_of (start ∷ end ∷ offsets) = (nat_of end - nat_of start) ∷ lengths_of (end ∷ offsets)

-- where each slot starts, and its length
abbrev pub starts_and_lengths_of : List ℤ → List (ℕ × ℕ)
starts_and_lengths_of [] = []
starts_and_lengths_of (start ∷ []) = []
starts_and_lengths_of (start ∷ end ∷ offsets) = (nat_of start, nat_of end - nat_of start) ∷ starts_and_lengths_of (end ∷ offsets)

-- the last offset passes the greatest value of the type
abbrev pub limit_fault : ℕ → ℤ → Option Cause
limit_fault greatest last = cause_if (int_lt (pos greatest) last) Overflow

-- The lengths that were taken from an iterator were added: all that it gave, or, where the answer is an error, those
-- up to the one at which it came. It is that of the limit exactly where they pass it.
abbrev pub ExtendsByLengths : {T : Type 0} → (T → Option ℕ → T → Type 0) → T → ℕ → List ℤ → List ℤ → Result (Unit {0}) PolarsError → Type 0
ExtendsByLengths {T} steps lengths greatest old new result =
    (taken : List ℕ)
    × Answers result (limit_fault greatest (last_of old +ℤ pos (sum taken))) (λ _. new ≡ extended old taken)
    × MatchResult result (λ _. Drains steps lengths taken) (λ _. (t : T) × Yields steps lengths taken t)

-- The same, of new offsets.
abbrev pub MadeByLengths : {T : Type 0} → (T → Option ℕ → T → Type 0) → T → ℕ → Result GrowingOffsets PolarsError → Type 0
MadeByLengths {T} steps lengths greatest result =
    (taken : List ℕ)
    × Answers result (limit_fault greatest (pos (sum taken))) (λ made. made.offsets ≡ extended (pos 0 ∷ []) taken)
    × MatchResult result (λ _. Drains steps lengths taken) (λ _. (t : T) × Yields steps lengths taken t)

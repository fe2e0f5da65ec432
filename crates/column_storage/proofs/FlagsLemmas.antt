-- Laws of the flags of slots and of their parts.
use Rattle.std.proofs.Common.{◌≡◌, ℕ, ◌+◌, ◌-◌, ◌≤◌, Bool, true, false, not, List, [], ◌∷◌, length, take, replicate, count_by, ◌==◌, if◌then◌else◌, Option, Some, None, ◌↔◌, refl, sym, ◌∙◌, ap, arith}
use Rattle.std.proofs.lemmas.Bool.Decides.{Decides-eqb, nat_tests}
use Rattle.std.proofs.lemmas.List.{length-replicate, take-replicate, drop-replicate}
use Rattle.column_base.specs.Lists.{sublist}
use Rattle.column_base.specs.Slots.{rows_of, slots_by}
use Rattle.column_base.specs.declared.errors.Cause.TheVariants.{ValidityLength}
use Rattle.column_base.proofs.AnswersLemmas.{cause_none}
use Rattle.column_base.proofs.ListsLemmas.{length-sublist, sublist-sublist}
use Rattle.column_storage.specs.Bits.{flags_of, given_bits, kept_flags, optional_values, sliced_flags}
use Rattle.column_storage.specs.Validity.{AreFlagsOf, flags_fault}
use Rattle.column_storage.proofs.CountsLemmas.{unset-true, unset-false, unset-none, unset-replicate}

-- ---- kept flags

all_true : (bits : List Bool) → count_by not bits ≡ 0 → bits ≡ replicate (length bits) true
all_true [] none = refl
all_true (true ∷ bits) none = ap (λ rest. true ∷ rest) (all_true bits (sym (unset-true bits) ∙ none))
all_true (false ∷ bits) none = absurd (omega (arith, unset-false bits))

kept_if : (none : Bool) (bits : List Bool) (n : ℕ) → (none ≡ true → bits ≡ replicate n true) → flags_of n (if none then None else Some bits) ≡ bits
kept_if true bits n valid = sym (valid refl)
kept_if false bits n valid = refl

pub flags_of-kept : (bits : List Bool) (n : ℕ) → length bits ≡ n → flags_of n (kept_flags bits) ≡ bits
flags_of-kept bits n same =
    kept_if (count_by not bits == 0) bits n (λ (none : (count_by not bits == 0) ≡ true).
    all_true bits ((Decides-eqb (count_by not bits) 0).0 none) ∙ ap (λ k. replicate k true) same)

kept_length : (none : Bool) (bits : List Bool) (n : ℕ) → length bits ≡ n → AreFlagsOf n (if none then None else Some bits)
kept_length true bits n same = tt
kept_length false bits n same = same

pub length-kept_flags : (bits : List Bool) (n : ℕ) → length bits ≡ n → AreFlagsOf n (kept_flags bits)
length-kept_flags bits n same = kept_length (count_by not bits == 0) bits n same

-- ---- as many flags as slots

pub length-flags_of : (flags : Option (List Bool)) (n : ℕ) → AreFlagsOf n flags → length (flags_of n flags) ≡ n
length-flags_of None n all = length-replicate n true
length-flags_of (Some bits) n all = all

pub length-sliced_flags : (flags : Option (List Bool)) (n from k : ℕ) → AreFlagsOf n flags → from + k ≤ n → AreFlagsOf k (sliced_flags flags from k)
length-sliced_flags None n from k all within = tt
length-sliced_flags (Some bits) n from k all within =
    length-kept_flags (sublist bits from k) k (length-sublist bits from k (omega arith))

-- flags are without a fault exactly where they are as many
pub no_flags_fault : (n : ℕ) (flags : Option (List Bool)) → (flags_fault n flags ≡ None) ↔ AreFlagsOf n flags
no_flags_fault n None = (λ none. tt, λ all. refl)
no_flags_fault n (Some bits) = (
  λ none. let test : not (length bits == n) ≡ false = cause_none _ ValidityLength none in grind (arith, nat_tests),
  λ all. let test : not (length bits == n) ≡ false = grind (arith, nat_tests) in rw test refl,
)

-- ---- the flags of a part

-- all of them true

pub replicate-sublist : (n from k : ℕ) → from + k ≤ n → sublist (replicate n true) from k ≡ replicate k true
replicate-sublist n from k within =
    ap (take k) (drop-replicate from n true) ∙ take-replicate k (n - from) true (omega arith)

pub flags_of-sliced : (flags : Option (List Bool)) (n from k : ℕ) → AreFlagsOf n flags → from + k ≤ n → flags_of k (sliced_flags flags from k) ≡ sublist (flags_of n flags) from k
flags_of-sliced None n from k all within = sym (replicate-sublist n from k within)
flags_of-sliced (Some bits) n from k all within =
    flags_of-kept (sublist bits from k) k (length-sublist bits from k (omega arith))

-- where all flags of a part are true, none is kept of a part of it
sliced_none : (bits : List Bool) (start m : ℕ) → count_by not bits ≡ 0 → kept_flags (sublist bits start m) ≡ None
sliced_none bits start m none = rw (unset-none bits start m none) refl

sliced_if : (none : Bool) (bits : List Bool) (start m : ℕ) → (none ≡ true → count_by not bits ≡ 0) → sliced_flags (if none then None else Some bits) start m ≡ kept_flags (sublist bits start m)
sliced_if true bits start m valid = sym (sliced_none bits start m (valid refl))
sliced_if false bits start m valid = refl

sliced_kept : (bits : List Bool) (start m : ℕ) → sliced_flags (kept_flags bits) start m ≡ kept_flags (sublist bits start m)
sliced_kept bits start m =
    sliced_if (count_by not bits == 0) bits start m (Decides-eqb (count_by not bits) 0).0

pub sliced_flags-sliced : (flags : Option (List Bool)) (n from k start m : ℕ) → AreFlagsOf n flags → from + k ≤ n → start + m ≤ k → sliced_flags (sliced_flags flags from k) start m ≡ sliced_flags flags (from + start) m
sliced_flags-sliced None n from k start m all within part = refl
sliced_flags-sliced (Some bits) n from k start m all within part =
    sliced_kept (sublist bits from k) start m ∙ ap kept_flags (sublist-sublist bits from k start m part)

-- ---- optional values

all_valid : {X : Type 0} (xs : List X) → optional_values [] xs ≡ optional_values (replicate (length xs) true) xs
all_valid [] = refl
all_valid (x ∷ xs) = ap (λ rest. Some x ∷ rest) (all_valid xs)

-- no bits say the same as a bit for each value that is set
pub optional_values-flags : {X : Type 0} (flags : Option (List Bool)) (xs : List X) → AreFlagsOf (length xs) flags → optional_values (given_bits flags) xs ≡ optional_values (flags_of (length xs) flags) xs
optional_values-flags None xs all = all_valid xs
optional_values-flags (Some bits) xs all = refl

-- the rows of slots are the values whose flag is true
pub rows_of-slots_by : (flags : List Bool) (values : List (List ℕ)) → length flags ≡ length values → rows_of (slots_by flags values) ≡ optional_values flags values
rows_of-slots_by [] [] same = refl
rows_of-slots_by [] (bytes ∷ values) same = absurd (omega arith)
rows_of-slots_by (flag ∷ flags) [] same = absurd (omega arith)
rows_of-slots_by (flag ∷ flags) (bytes ∷ values) same =
    ap (λ rest. (if flag then Some bytes else None) ∷ rest) (rows_of-slots_by flags values (omega arith))

-- ---- counts

-- as many slots are null as given bits are not set
pub count-given : (flags : Option (List Bool)) (n : ℕ) → count_by not (given_bits flags) ≡ count_by not (flags_of n flags)
count-given None n = sym (unset-replicate true n)
count-given (Some bits) n = refl

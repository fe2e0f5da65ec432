-- Laws of the number of bits that are not set.
use Rattle.std.proofs.Common.{◌≡◌, ℕ, zero, suc, ◌+◌, ◌-◌, ◌<◌, ◌≤◌, Bool, true, false, not, cond, List, [], ◌∷◌, ◌++◌, length, take, drop, replicate, slice_range, count_by, refl, ◌∙◌, ap, arith, if◌then◌else◌}
use Rattle.std.specs.Prelude.{slice_set, slice_index_or}
use Rattle.std.proofs.lemmas.List.Sums.{sum_by-cons, sum_by-append, sum_by-set, sum_by-take-drop}
use Rattle.std.proofs.lemmas.List.{length-drop, drop-drop, take_all}
use Rattle.column_base.specs.Lists.{sublist}

pub unset-true : (bits : List Bool) → count_by not (true ∷ bits) ≡ count_by not bits
unset-true bits = sum_by-cons (λ (b : Bool). cond (not b) 1 0) true bits ∙ omega arith

pub unset-false : (bits : List Bool) → count_by not (false ∷ bits) ≡ suc (count_by not bits)
unset-false bits = sum_by-cons (λ (b : Bool). cond (not b) 1 0) false bits ∙ omega arith

set-true : (bits : List Bool) → count_by (λ b. b) (true ∷ bits) ≡ suc (count_by (λ b. b) bits)
set-true bits = sum_by-cons (λ (b : Bool). cond b 1 0) true bits ∙ omega arith

set-false : (bits : List Bool) → count_by (λ b. b) (false ∷ bits) ≡ count_by (λ b. b) bits
set-false bits = sum_by-cons (λ (b : Bool). cond b 1 0) false bits ∙ omega arith

-- a bit is set or not
set-unset : (bits : List Bool) → count_by (λ b. b) bits + count_by not bits ≡ length bits
set-unset [] = refl
set-unset (true ∷ bits) = omega (arith, set-true bits, unset-true bits, set-unset bits)
set-unset (false ∷ bits) = omega (arith, set-false bits, unset-false bits, set-unset bits)

pub unset-most : (bits : List Bool) → count_by not bits ≤ length bits
unset-most bits = omega (arith, set-unset bits)

pub set-rest : (bits : List Bool) → length bits - count_by not bits ≡ count_by (λ b. b) bits
set-rest bits = omega (arith, set-unset bits)

-- bits of one value
pub unset-replicate : (value : Bool) (n : ℕ) → count_by not (replicate n value) ≡ if value then 0 else n
unset-replicate true zero = refl
unset-replicate false zero = refl
unset-replicate true (suc n) = unset-true (replicate n true) ∙ unset-replicate true n
unset-replicate false (suc n) = unset-false (replicate n false) ∙ ap suc (unset-replicate false n)

-- the front, the part and the back are the whole
unset-parts : (bits : List Bool) (from n : ℕ) → count_by not (take from bits) + count_by not (sublist bits from n) + count_by not (drop (from + n) bits) ≡ count_by not bits
unset-parts bits from n =
    let front = sum_by-take-drop (λ (b : Bool). cond (not b) 1 0) bits from in
    let back = sum_by-take-drop (λ (b : Bool). cond (not b) 1 0) (drop from bits) n in
    let same = ap (count_by not) (drop-drop n from bits) in
    omega arith

pub unset-front : (bits : List Bool) (n : ℕ) → count_by not (take n bits) ≤ count_by not bits
unset-front bits n = let parts = sum_by-take-drop (λ (b : Bool). cond (not b) 1 0) bits n in omega arith

-- the back as it is read, from a place to the end
back : (bits : List Bool) (from : ℕ) → slice_range bits from (length bits) ≡ drop from bits
back bits from = take_all (length bits - from) (drop from bits) (rw length-drop (omega arith))

pub unset-back : (bits : List Bool) (from n : ℕ) → count_by not (slice_range bits (from + n) (length bits)) ≤ count_by not bits - count_by not (take from bits)
unset-back bits from n =
    let parts = unset-parts bits from n in
    rw (back bits (from + n)) (omega arith)

pub unset-part : (bits : List Bool) (unset from n : ℕ) → unset ≡ count_by not bits → unset - count_by not (take from bits) - count_by not (slice_range bits (from + n) (length bits)) ≡ count_by not (sublist bits from n)
unset-part bits unset from n counted =
    let parts = unset-parts bits from n in
    rw (back bits (from + n)) (omega arith)

-- the rest of a split
pub unset-rest : (bits : List Bool) (n : ℕ) → count_by not bits - count_by not (take n bits) ≡ count_by not (drop n bits)
unset-rest bits n = let parts = sum_by-take-drop (λ (b : Bool). cond (not b) 1 0) bits n in omega arith

-- where no bit is unset, none of a part is
pub unset-none : (bits : List Bool) (from n : ℕ) → count_by not bits ≡ 0 → count_by not (sublist bits from n) ≡ 0
unset-none bits from n none = let parts = unset-parts bits from n in omega arith

pub range-part : (bits : List Bool) (from n : ℕ) → slice_range bits from (from + n) ≡ sublist bits from n
range-part bits from n =
    let same : from + n - from ≡ n = omega arith in ap (λ k. take k (drop from bits)) same

pub ruleset counts = (unset-most, set-rest, unset-replicate, unset-front, unset-back, unset-part, unset-rest, unset-none, range-part)

-- the bits of two lists, and of one more
pub unset-joined : (bits others : List Bool) → count_by not (bits ++ others) ≡ count_by not bits + count_by not others
unset-joined bits others = sum_by-append (λ (b : Bool). cond (not b) 1 0) bits others

pub unset-set : (bits : List Bool) (i : ℕ) (d value : Bool) → i < length bits → count_by not (slice_set bits i value) + cond (not (slice_index_or bits i d)) 1 0 ≡ count_by not bits + cond (not value) 1 0
unset-set bits i d value inside = sum_by-set (λ (b : Bool). cond (not b) 1 0) bits i value d inside

pub ruleset growing_counts = (unset-most, unset-replicate, unset-joined, unset-set)

-- Laws of the places of set bits.
use Rattle.std.proofs.Common.{◌≡◌, ℕ, zero, suc, ◌+◌, ◌-◌, ◌≤◌, Bool, true, false, List, [], ◌∷◌, length, drop, replicate, slice_get, Some, refl, ◌∙◌, ap, arith, add-one}
use Rattle.std.proofs.lemmas.List.{length-drop, drop-replicate, drop_all}
use Rattle.column_storage.specs.Bits.{set_places}

-- a list from a place on begins with the element there
pub drop-get : {X : Type 0} (xs : List X) (i : ℕ) (x : X) → slice_get xs i ≡ Some x → drop i xs ≡ x ∷ drop (i + 1) xs
drop-get [] i x at = cc
drop-get (y ∷ xs) zero x at = cc
drop-get (y ∷ xs) (suc i) x at = rw add-one (rw add-one at (drop-get xs i x at))

-- no more places than bits
pub length-set_places : (at : ℕ) (bits : List Bool) → length (set_places at bits) ≤ length bits
length-set_places at [] = omega arith
length-set_places at (true ∷ bits) = omega (arith, length-set_places (at + 1) bits)
length-set_places at (false ∷ bits) = omega (arith, length-set_places (at + 1) bits)

-- where all bits are set, as many
length-all_places : (at n : ℕ) → length (set_places at (replicate n true)) ≡ n
length-all_places at zero = refl
length-all_places at (suc n) = ap suc (length-all_places (at + 1) n)

-- the places from a set bit on, and from an unset one on
pub places-set : (bits : List Bool) (i : ℕ) → slice_get bits i ≡ Some true → set_places i (drop i bits) ≡ i ∷ set_places (i + 1) (drop (i + 1) bits)
places-set bits i at = ap (set_places i) (drop-get bits i true at)

pub places-unset : (bits : List Bool) (i : ℕ) → slice_get bits i ≡ Some false → set_places i (drop i bits) ≡ set_places (i + 1) (drop (i + 1) bits)
places-unset bits i at = ap (set_places i) (drop-get bits i false at)

pub places-end : (bits : List Bool) (i : ℕ) → length bits ≤ i → set_places i (drop i bits) ≡ []
places-end bits i past = ap (set_places i) (drop_all i bits past)

-- how many places are left at most, and just as many where no bits are given
pub places-most : (bits : List Bool) (i : ℕ) → length (set_places i (drop i bits)) ≤ length bits - i
places-most bits i = rw length-drop at (length-set_places i (drop i bits))

pub places-all : (n i : ℕ) → length (set_places i (drop i (replicate n true))) ≡ n - i
places-all n i = ap (λ bits. length (set_places i bits)) (drop-replicate i n true) ∙ length-all_places i (n - i)

pub ruleset places = (places-set, places-unset, places-end, places-most, places-all)

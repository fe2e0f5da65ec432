-- Slots of offsets, one by one.
use Rattle.std.proofs.Common.{◌≡◌, ℕ, zero, suc, ◌+◌, ◌-◌, ◌<◌, ◌≤◌, ℤ, List, [], ◌∷◌, length, take, drop, map, refl, ◌∙◌, ap, arith}
use Rattle.std.proofs.lemmas.List.{length-map, drop-map}
use Rattle.column_base.specs.Lists.{sublist}
use Rattle.column_base.proofs.ListsLemmas.{map-sublist}
use Rattle.column_offset.specs.Offsets.{nat_of, offset_at}
use Rattle.column_offset.specs.Growth.{lengths_of, starts_and_lengths_of}

pub lengths_of-none : (offsets : List ℤ) → length offsets < 2 → lengths_of offsets ≡ []
lengths_of-none [] few = refl
lengths_of-none (a ∷ []) few = refl
lengths_of-none (a ∷ b ∷ offsets) few = absurd (omega arith)

pub lengths_of-next : (offsets : List ℤ) → 2 ≤ length offsets → lengths_of offsets ≡ (nat_of (offset_at offsets 1) - nat_of (offset_at offsets 0)) ∷ lengths_of (drop 1 offsets)
lengths_of-next [] some = absurd (omega arith)
lengths_of-next (a ∷ []) some = absurd (omega arith)
lengths_of-next (a ∷ b ∷ offsets) some = refl

pub length-lengths_of : (offsets : List ℤ) → length (lengths_of offsets) ≡ length offsets - 1
length-lengths_of [] = omega arith
length-lengths_of (a ∷ []) = omega arith
length-lengths_of (a ∷ b ∷ offsets) =
    let rest = length-lengths_of (b ∷ offsets) in
    omega arith

pub lengths_of-none_map : {X : Type 0} (f : X → ℤ) (xs : List X) → length xs < 2 → lengths_of (map f xs) ≡ []
lengths_of-none_map f xs few = lengths_of-none (map f xs) (rw length-map few)

pub lengths_of-next_map : {X : Type 0} (f : X → ℤ) (xs : List X) → 2 ≤ length xs → lengths_of (map f xs) ≡ (nat_of (offset_at (map f xs) 1) - nat_of (offset_at (map f xs) 0)) ∷ lengths_of (map f (drop 1 xs))
lengths_of-next_map f xs some = rw (← (drop-map f 1 xs)) (lengths_of-next (map f xs) (rw length-map some))

pub starts_and_lengths_of-none : (offsets : List ℤ) → length offsets < 2 → starts_and_lengths_of offsets ≡ []
starts_and_lengths_of-none [] few = refl
starts_and_lengths_of-none (a ∷ []) few = refl
starts_and_lengths_of-none (a ∷ b ∷ offsets) few = absurd (omega arith)

pub starts_and_lengths_of-next : (offsets : List ℤ) → 2 ≤ length offsets → starts_and_lengths_of offsets ≡ (nat_of (offset_at offsets 0), nat_of (offset_at offsets 1) - nat_of (offset_at offsets 0)) ∷ starts_and_lengths_of (drop 1 offsets)
starts_and_lengths_of-next [] some = absurd (omega arith)
starts_and_lengths_of-next (a ∷ []) some = absurd (omega arith)
starts_and_lengths_of-next (a ∷ b ∷ offsets) some = refl

pub length-starts_and_lengths_of : (offsets : List ℤ) → length (starts_and_lengths_of offsets) ≡ length offsets - 1
length-starts_and_lengths_of [] = omega arith
length-starts_and_lengths_of (a ∷ []) = omega arith
length-starts_and_lengths_of (a ∷ b ∷ offsets) =
    let rest = length-starts_and_lengths_of (b ∷ offsets) in
    omega arith

pub starts_and_lengths_of-none_map : {X : Type 0} (f : X → ℤ) (xs : List X) → length xs < 2 → starts_and_lengths_of (map f xs) ≡ []
starts_and_lengths_of-none_map f xs few = starts_and_lengths_of-none (map f xs) (rw length-map few)

pub starts_and_lengths_of-next_map : {X : Type 0} (f : X → ℤ) (xs : List X) → 2 ≤ length xs → starts_and_lengths_of (map f xs) ≡ (nat_of (offset_at (map f xs) 0), nat_of (offset_at (map f xs) 1) - nat_of (offset_at (map f xs) 0)) ∷ starts_and_lengths_of (map f (drop 1 xs))
starts_and_lengths_of-next_map f xs some = rw (← (drop-map f 1 xs)) (starts_and_lengths_of-next (map f xs) (rw length-map some))

-- ---- some of the slots

lengths_of-drop : (k : ℕ) (offsets : List ℤ) → lengths_of (drop k offsets) ≡ drop k (lengths_of offsets)
lengths_of-drop zero offsets = refl
lengths_of-drop (suc k) [] = refl
lengths_of-drop (suc zero) (a ∷ []) = refl
lengths_of-drop (suc (suc k)) (a ∷ []) = refl
lengths_of-drop (suc k) (a ∷ b ∷ offsets) = lengths_of-drop k (b ∷ offsets)

lengths_of-take : (n : ℕ) (offsets : List ℤ) → lengths_of (take (suc n) offsets) ≡ take n (lengths_of offsets)
lengths_of-take zero [] = refl
lengths_of-take zero (a ∷ offsets) = refl
lengths_of-take (suc n) [] = refl
lengths_of-take (suc n) (a ∷ []) = refl
lengths_of-take (suc n) (a ∷ b ∷ offsets) = ap (λ ls. (nat_of b - nat_of a) ∷ ls) (lengths_of-take n (b ∷ offsets))

pub lengths_of-part : {X : Type 0} (f : X → ℤ) (xs : List X) (start n : ℕ) → lengths_of (map f (sublist xs start (n + 1))) ≡ sublist (lengths_of (map f xs)) start n
lengths_of-part f xs start n =
    let e : n + 1 ≡ suc n = omega arith in
    rw e (
    ap lengths_of (map-sublist f xs start (suc n))
    ∙ lengths_of-take n (drop start (map f xs))
    ∙ ap (take n) (lengths_of-drop start (map f xs))
    )

pub ruleset lengths = (lengths_of-none_map, lengths_of-next_map, length-lengths_of, length-map)

pub ruleset pairs = (starts_and_lengths_of-none_map, starts_and_lengths_of-next_map, length-starts_and_lengths_of, length-map)

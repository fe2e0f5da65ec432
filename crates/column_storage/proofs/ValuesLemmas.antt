-- Laws of the values at the places of set bits.
use Rattle.std.proofs.Common.{◌≡◌, ℕ, zero, suc, ◌+◌, Bool, true, false, List, [], ◌∷◌, length, drop, slice_get, Some, refl, ap, arith, add-one}
use Rattle.std.proofs.lemmas.List.{length-drop}
use Rattle.column_storage.specs.Bits.{set_places, at_places, valid_values}
use Rattle.column_storage.proofs.FlagsLemmas.{length-flags_of}

-- an element of a list from a place on
get-from : {X : Type 0} (xs : List X) (i : ℕ) (x : X) (rest : List X) → drop i xs ≡ x ∷ rest → (slice_get xs i ≡ Some x) × (drop (i + 1) xs ≡ rest)
get-from [] zero x rest e = absurd (cc)
get-from [] (suc i) x rest e = absurd (cc)
get-from (y ∷ xs) zero x rest e = (cc, cc)
get-from (y ∷ xs) (suc i) x rest e = let p = get-from xs i x rest e in (p.0, rw add-one (rw add-one at p.1))

-- the values at the places of set bits are those whose bit is set
values-from : {X : Type 0} (xs : List X) (i : ℕ) (bits : List Bool) (rest : List X) → drop i xs ≡ rest → length bits ≡ length rest → at_places xs (set_places i bits) ≡ valid_values bits rest
values-from xs i [] rest e same = refl
values-from xs i (bit ∷ bits) [] e same = absurd (omega arith)
values-from xs i (true ∷ bits) (x ∷ rest) e same =
    let p = get-from xs i x rest e in
    rw p.0 (ap (λ ys. x ∷ ys) (values-from xs (i + 1) bits rest p.1 (omega arith)))
values-from xs i (false ∷ bits) (x ∷ rest) e same =
    let p = get-from xs i x rest e in values-from xs (i + 1) bits rest p.1 (omega arith)

pub values-all : {X : Type 0} (xs : List X) (bits : List Bool) → length bits ≡ length xs → at_places xs (set_places 0 bits) ≡ valid_values bits xs
values-all xs bits same = values-from xs 0 bits xs refl same

count-from : {X : Type 0} (xs : List X) (i : ℕ) (bits : List Bool) (rest : List X) → drop i xs ≡ rest → length bits ≡ length rest → length (at_places xs (set_places i bits)) ≡ length (set_places i bits)
count-from xs i [] rest e same = refl
count-from xs i (bit ∷ bits) [] e same = absurd (omega arith)
count-from xs i (true ∷ bits) (x ∷ rest) e same =
    let p = get-from xs i x rest e in
    rw p.0 (ap suc (count-from xs (i + 1) bits rest p.1 (omega arith)))
count-from xs i (false ∷ bits) (x ∷ rest) e same =
    let p = get-from xs i x rest e in count-from xs (i + 1) bits rest p.1 (omega arith)

-- each place that is left has a value
pub count-left : {X : Type 0} (xs : List X) (i : ℕ) (bits : List Bool) → length bits ≡ length xs → length (at_places xs (set_places i (drop i bits))) ≡ length (set_places i (drop i bits))
count-left xs i bits same = count-from xs i (drop i bits) (drop i xs) refl (simp length-drop (omega arith))

pub ruleset values = (values-all, count-left, length-flags_of)

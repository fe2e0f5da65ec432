-- Places that go down through levels of offsets.
use Rattle.std.proofs.Common.{◌≡◌, ℕ, Bool, true, false, ◌&&◌, nat_lt, suc, ◌+◌, ◌-◌, ◌<◌, ◌≤◌, ℤ, List, [], ◌∷◌, length, map, take, drop, get_or, refl, sym, ◌∙◌, ap, subst, arith}
use Rattle.std.proofs.lemmas.List.{at_drop_more, at_drop_all, drop_more, take_rest, drop-map, length-drop, length-map}
use Rattle.std.proofs.lemmas.Bool.Decides.{Decides-ltb}
use Rattle.column_offset.specs.Offsets.{nat_of, offset_at, last_of}
use Rattle.column_offset.specs.Leaves.{leaf_place, fits_levels, neighbours, leaf_ranges}
use Rattle.column_offset.proofs.OffsetsLemmas.{offset_at-drop}

both : (a b : Bool) → a && b ≡ true → (a ≡ true) × (b ≡ true)
both true true h = (refl, refl)
both true false h = absurd (cc)
both false b h = absurd (cc)

joined : (a b : Bool) → a ≡ true → b ≡ true → a && b ≡ true
joined true true p q = refl
joined true false p q = absurd (cc)
joined false b p q = absurd (cc)

-- what a place that fits says of the first level, and of those below it
fits_first : (place : ℕ) (level : List ℤ) (levels : List (List ℤ)) → fits_levels place (level ∷ levels) ≡ true → (place < length level) × (fits_levels (nat_of (last_of level)) levels ≡ true)
fits_first place level levels fits =
    let parts = both (nat_lt place (length level)) (fits_levels (nat_of (last_of level)) levels) fits in
    ((Decides-ltb place (length level)).0 parts.0, parts.1)

-- a lower place fits too
lower_fits : (place least : ℕ) (levels : List (List ℤ)) → least ≤ place → fits_levels place levels ≡ true → fits_levels least levels ≡ true
lower_fits place least [] below fits = refl
lower_fits place least (level ∷ levels) below fits =
    let parts = fits_first place level levels fits in
    let within : place < length level = parts.0 in
    joined (nat_lt least (length level)) (fits_levels (nat_of (last_of level)) levels) ((Decides-ltb least (length level)).1 (omega arith)) parts.1

-- what a loop over levels keeps: the place fits what is left, and comes to where the first place does
pub record Descends (levels : List (List ℤ)) (first i place : ℕ) : Type 0 where
  pub fits : fits_levels place (drop i levels) ≡ true
  pub same : leaf_place (drop i levels) place ≡ leaf_place levels first

pub descends_start : (levels : List (List ℤ)) (first : ℕ) → fits_levels first levels ≡ true → Descends levels first 0 first
descends_start levels first fits = record { fits = fits; same = refl }

fits_here : (levels : List (List ℤ)) (first i place : ℕ) (level : List ℤ) → Descends levels first i place → i < length levels → level ≡ get_or levels i level → fits_levels place (level ∷ drop (i + 1) levels) ≡ true
fits_here levels first i place level at within is =
    let left : drop i levels ≡ level ∷ drop (i + 1) levels =
    drop_more levels i level within ∙ ap (λ (next : List ℤ). next ∷ drop (i + 1) levels) (sym is) in
    subst (λ (ls : List (List ℤ)). fits_levels place ls ≡ true) left at.fits

pub descends_within : (levels : List (List ℤ)) (first i place : ℕ) (level : List ℤ) → Descends levels first i place → i < length levels → level ≡ get_or levels i level → place < length level
descends_within levels first i place level at within is = (fits_first place level (drop (i + 1) levels) (fits_here levels first i place level at within is)).0

pub descends_more : (levels : List (List ℤ)) (first i place next : ℕ) (level : List ℤ) → Descends levels first i place → i < length levels → level ≡ get_or levels i level → next ≡ nat_of (offset_at level place) → next ≤ nat_of (last_of level) → Descends levels first (i + 1) next
descends_more levels first i place next level at within is goes below =
    let here = fits_first place level (drop (i + 1) levels) (fits_here levels first i place level at within is) in
    let one : leaf_place (drop i levels) place ≡ leaf_place (drop (i + 1) levels) (nat_of (offset_at level place)) =
    at_drop_more (λ (ls : List (List ℤ)). leaf_place ls place) levels i level within
    ∙ ap (λ (l : List ℤ). leaf_place (l ∷ drop (i + 1) levels) place) (sym is) in
    record {
      fits = lower_fits (nat_of (last_of level)) next (drop (i + 1) levels) below here.1;
      same = ap (leaf_place (drop (i + 1) levels)) goes ∙ sym one ∙ at.same;
    }

pub descends_end : (levels : List (List ℤ)) (first i place : ℕ) → Descends levels first i place → length levels ≤ i → place ≡ leaf_place levels first
descends_end levels first i place at past =
    sym (at_drop_all (λ (ls : List (List ℤ)). leaf_place ls place) levels i past) ∙ at.same

pub ruleset descending = (descends_start, descends_within, descends_more, descends_end)

-- ---- neighbours

pub first_fits : (offsets : List ℤ) (levels : List (List ℤ)) (place : ℕ) → fits_levels (nat_of (last_of offsets)) levels ≡ true → place ≤ nat_of (last_of offsets) → fits_levels place levels ≡ true
first_fits offsets levels place fits below = lower_fits (nat_of (last_of offsets)) place levels below fits

length-neighbours : (places : List ℕ) → length (neighbours places) ≡ length places - 1
length-neighbours [] = refl
length-neighbours (a ∷ []) = refl
length-neighbours (a ∷ b ∷ places) = ap suc (length-neighbours (b ∷ places)) ∙ omega arith

pub length-leaf_ranges : (level : List ℤ) (levels : List (List ℤ)) → length (leaf_ranges level levels) ≡ length level - 1
length-leaf_ranges level levels =
    length-neighbours (map (λ (offset : ℤ). leaf_place levels (nat_of offset)) level)
    ∙ ap (λ n. n - 1) (length-map level (λ (offset : ℤ). leaf_place levels (nat_of offset)))

-- without the first of two or more, the last is as before
pub fits_rest : {X : Type 0} (f : X → ℤ) (xs : List X) (levels : List (List ℤ)) → 2 ≤ length xs → fits_levels (nat_of (last_of (map f xs))) levels ≡ true → fits_levels (nat_of (last_of (map f (take (length xs - 1) (drop 1 xs))))) levels ≡ true
fits_rest f xs levels some fits =
    let rest : map f (take (length xs - 1) (drop 1 xs)) ≡ drop 1 (map f xs) =
    ap (map f) (take_rest xs 1) ∙ sym (drop-map f 1 xs) in
    let size : length (drop 1 (map f xs)) ≡ length xs - 1 = length-drop 1 (map f xs) ∙ ap (λ n. n - 1) (length-map xs f) in
    let place : 1 + (length (drop 1 (map f xs)) - 1) ≡ length (map f xs) - 1 =
    let all = length-map xs f in omega arith in
    let last : last_of (drop 1 (map f xs)) ≡ last_of (map f xs) =
    offset_at-drop (map f xs) 1 (length (drop 1 (map f xs)) - 1) ∙ ap (offset_at (map f xs)) place in
    let same : last_of (map f (take (length xs - 1) (drop 1 xs))) ≡ last_of (map f xs) = ap last_of rest ∙ last in
    subst (λ (n : ℤ). fits_levels (nat_of n) levels ≡ true) (sym same) fits

pub ruleset leaves = (first_fits, length-map)

pub ruleset counts = (length-leaf_ranges)

-- Laws of rows at their places.
use Rattle.std.proofs.Common.{◌≡◌, ℕ, ◌+◌, ◌<◌, ◌≤◌, List, [], ◌∷◌, ◌++◌, length, take, drop, Option, None, Some, refl, sym, ◌∙◌, ap, subst, arith}
use Rattle.std.specs.Prelude.{slice_index_or}
use Rattle.std.proofs.lemmas.List.{length-append, length-map, take-append-le, drop-append-le, length-drop, get_or-map}
use Rattle.std.proofs.lemmas.List.Elements.{All-nil, All-head, All-tail, All-push, All-weaker, All-get_or}
use Rattle.column_base.specs.Lists.{sublist}
use Rattle.column_relayout.specs.declared.rows.Place.{Place}
use Rattle.column_relayout.specs.declared.rows.Place.TheVariants.{Missing, Here, There}
use Rattle.column_relayout.specs.Places.{row_at, rows_at, IsWithin, AreWithin, IsPlaced}

-- ---- a row

-- a part stays where bytes are added at the end
kept_part : (bytes more : List ℕ) (from n : ℕ) → from + n ≤ length bytes → sublist (bytes ++ more) from n ≡ sublist bytes from n
kept_part bytes more from n within =
    ap (take n) (drop-append-le from bytes more (omega arith))
    ∙ take-append-le n (drop from bytes) more (rw length-drop (omega arith))

kept_row : (bytes more : List ℕ) (place : Place) → IsWithin (length bytes) place → row_at (bytes ++ more) place ≡ row_at bytes place
kept_row bytes more Missing within = refl
kept_row bytes more (Here count own) within = refl
kept_row bytes more (There start n) within = ap Some (kept_part bytes more start n within)

more_within : (n m : ℕ) (place : Place) → n ≤ m → IsWithin n place → IsWithin m place
more_within n m Missing more within = within
more_within n m (Here count own) more within = within
more_within n m (There start len) more within = omega (arith, more, within)

-- ---- rows

pub no_rows : (bytes : List ℕ) → rows_at bytes [] ≡ []
unfolding rows_at
no_rows bytes = refl

pub no_rows_within : (n : ℕ) → AreWithin n []
unfolding AreWithin
no_rows_within n = All-nil (IsWithin n)

pub length-rows_at : (bytes : List ℕ) (places : List Place) → length (rows_at bytes places) ≡ length places
unfolding rows_at
length-rows_at bytes places = length-map places (row_at bytes)

-- rows stay where bytes are added at the end
kept_rows : (bytes more : List ℕ) (places : List Place) → AreWithin (length bytes) places → rows_at (bytes ++ more) places ≡ rows_at bytes places
unfolding rows_at AreWithin
kept_rows bytes more [] within = refl
kept_rows bytes more (place ∷ places) within =
    ap (λ (row : Option (List ℕ)). row ∷ rows_at (bytes ++ more) places) (kept_row bytes more place (All-head (IsWithin (length bytes)) place places within))
    ∙ ap (λ (rows : List (Option (List ℕ))). row_at bytes place ∷ rows) (kept_rows bytes more places (All-tail (IsWithin (length bytes)) place places within))

more_are_within : (bytes more : List ℕ) (places : List Place) → AreWithin (length bytes) places → AreWithin (length (bytes ++ more)) places
unfolding AreWithin
more_are_within bytes more places within =
    let size = length-append bytes more in
    All-weaker (IsWithin (length bytes)) (IsWithin (length (bytes ++ more))) (λ place own. more_within (length bytes) (length (bytes ++ more)) place (omega (arith, size)) own) places within

rows_at-append : (bytes : List ℕ) (front back : List Place) → rows_at bytes (front ++ back) ≡ rows_at bytes front ++ rows_at bytes back
unfolding rows_at
rows_at-append bytes [] back = refl
rows_at-append bytes (place ∷ front) back = ap (λ (rows : List (Option (List ℕ))). row_at bytes place ∷ rows) (rows_at-append bytes front back)

-- ---- a row is added

-- the old rows stay among the new bytes
pub old_rows : (old new : List ℕ) (places : List Place) (row : Option (List ℕ)) (place : Place) → AreWithin (length old) places → IsPlaced old row place new → rows_at new places ≡ rows_at old places
old_rows old new places row place within is =
    ap (λ (bytes : List ℕ). rows_at bytes places) is.kept ∙ kept_rows old (drop (length old) new) places within

pub old_within : (old new : List ℕ) (places : List Place) (row : Option (List ℕ)) (place : Place) → AreWithin (length old) places → IsPlaced old row place new → AreWithin (length new) places
old_within old new places row place within is =
    subst (λ (bytes : List ℕ). AreWithin (length bytes) places) (sym is.kept) (more_are_within old (drop (length old) new) places within)

pub added_rows : (old new : List ℕ) (places : List Place) (row : Option (List ℕ)) (place : Place) → AreWithin (length old) places → IsPlaced old row place new → rows_at new (places ++ place ∷ []) ≡ rows_at old places ++ row ∷ []
unfolding rows_at
added_rows old new places row place within is =
    rows_at-append new places (place ∷ [])
    ∙ ap (λ (rows : List (Option (List ℕ))). rows ++ rows_at new (place ∷ [])) (old_rows old new places row place within is)
    ∙ ap (λ (last : Option (List ℕ)). rows_at old places ++ last ∷ []) is.placed

pub added_within : (old new : List ℕ) (places : List Place) (row : Option (List ℕ)) (place : Place) → AreWithin (length old) places → IsPlaced old row place new → AreWithin (length new) (places ++ place ∷ [])
unfolding AreWithin
added_within old new places row place within is =
    All-push (IsWithin (length new)) places place (old_within old new places row place within is) is.within

-- ---- one of the rows

some_place : (bytes : List ℕ) (places : List Place) (rows : List (Option (List ℕ))) (i : ℕ) → rows_at bytes places ≡ rows → i < length rows → i < length places
some_place bytes places rows i are within = let size = sym (length-rows_at bytes places) ∙ ap length are in omega (arith, size, within)

pub one_row : (bytes : List ℕ) (places : List Place) (rows : List (Option (List ℕ))) (i : ℕ) (place : Place) → rows_at bytes places ≡ rows → i < length rows → place ≡ slice_index_or places i place → row_at bytes place ≡ slice_index_or rows i None
unfolding rows_at
one_row bytes places rows i place are within is =
    ap (row_at bytes) is
    ∙ sym (get_or-map (row_at bytes) places i place None (some_place bytes places rows i are within))
    ∙ ap (λ (all : List (Option (List ℕ))). slice_index_or all i None) are

pub one_within : (bytes : List ℕ) (places : List Place) (rows : List (Option (List ℕ))) (i : ℕ) (place : Place) → rows_at bytes places ≡ rows → i < length rows → place ≡ slice_index_or places i place → AreWithin (length bytes) places → IsWithin (length bytes) place
unfolding AreWithin
one_within bytes places rows i place are within is all =
    subst (IsWithin (length bytes)) (sym is) (All-get_or (IsWithin (length bytes)) places i place (some_place bytes places rows i are within) all)

pub ruleset places = (no_rows, no_rows_within, length-rows_at, old_rows, old_within, added_rows, added_within)

-- Rows that are pushed one after another.
use Rattle.std.proofs.Common.{◌≡◌, ℕ, ◌+◌, ◌<◌, ◌≤◌, List, [], ◌∷◌, ◌++◌, length, map, take, drop, Option, Some, None, sym, ◌∙◌, ap, subst}
use Rattle.std.specs.Prelude.{slice_index_or}
use Rattle.std.proofs.lemmas.List.{map-append, map_more, drop_more, take_all, take-append-drop}
use Rattle.column_base.specs.declared.errors.Cause.{Cause}
use Rattle.column_base.specs.Pushes.{Growth, grown, growth_fault}
use Rattle.column_base.proofs.PushesLemmas.{Stands, stands_more, stands_refused}

module _ {L X : Type 0} (growth : Growth L X) (taken : Option (List ℕ) → X) (rows : List (Option (List ℕ))) where
  -- the first i rows were pushed, and none was refused
  abbrev pub ArePushed : L → L → ℕ → Type 0
  ArePushed old new i = Stands growth old new (map taken (take i rows))

  pub pushed_more : (old new next : L) (i : ℕ) (row : Option (List ℕ)) → ArePushed old new i → i < length rows → row ≡ slice_index_or rows i None → growth.fault new (taken row) ≡ None → next ≡ growth.pushed new (taken row) → ArePushed old next (i + 1)
  pushed_more old new next i row at within is none next_is =
      let more : map taken (take (i + 1) rows) ≡ map taken (take i rows) ++ taken row ∷ [] =
      map_more taken rows i None within ∙ ap (λ (r : Option (List ℕ)). map taken (take i rows) ++ taken r ∷ []) (sym is) in
      subst (Stands growth old next) (sym more) (stands_more growth old new next (map taken (take i rows)) (taken row) at none next_is)

  pub pushed_refused : (old new : L) (i : ℕ) (row : Option (List ℕ)) (cause : Cause) → ArePushed old new i → i < length rows → row ≡ slice_index_or rows i None → growth.fault new (taken row) ≡ Some cause → growth_fault growth old (map taken rows) ≡ Some cause
  pushed_refused old new i row cause at within is refused =
      let whole : rows ≡ take i rows ++ row ∷ drop (i + 1) rows =
      sym (take-append-drop i rows)
      ∙ ap (λ (rest : List (Option (List ℕ))). take i rows ++ rest) (drop_more rows i None within ∙ ap (λ (r : Option (List ℕ)). r ∷ drop (i + 1) rows) (sym is)) in
      let parts : map taken rows ≡ map taken (take i rows) ++ taken row ∷ map taken (drop (i + 1) rows) =
      ap (map taken) whole ∙ map-append taken (take i rows) (row ∷ drop (i + 1) rows) in
      subst (λ (items : List X). growth_fault growth old items ≡ Some cause) (sym parts)
      (stands_refused growth old new (map taken (take i rows)) (map taken (drop (i + 1) rows)) (taken row) cause at refused)

  pub pushed_all : (old new : L) (i : ℕ) → ArePushed old new i → length rows ≤ i → (growth_fault growth old (map taken rows) ≡ None) × (new ≡ grown growth old (map taken rows))
  pushed_all old new i at past =
      let all : take i rows ≡ rows = take_all i rows past in (
        ap (λ (rs : List (Option (List ℕ))). growth_fault growth old (map taken rs)) (sym all) ∙ at.fine,
        at.is ∙ ap (λ (rs : List (Option (List ℕ))). grown growth old (map taken rs)) all,
      )

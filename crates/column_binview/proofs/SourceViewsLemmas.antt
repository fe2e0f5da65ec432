-- Laws of views of a source that are taken one after another.
use Rattle.std.proofs.Common.{◌≡◌, ℕ, Bool, true, false, List, [], ◌∷◌, Option, Some, None, refl, sym, subst, if◌then◌else◌}
use Rattle.std.specs.Prelude.{slice_index_or, IfSome}
use Rattle.std.specs.List.{filter_map}
use Rattle.std.specs.Iterator.{Yields}
use Rattle.column_view.specs.Views.{is_long, view_index}
use Rattle.column_view.specs.ViewFaults.{view_fault, views_fault}
use Rattle.column_view.proofs.FaultsLemmas.{first_none, rest_none}
use Rattle.column_blocks.specs.Sources.{BuilderBytes, SourceBuffers, source_at, place_noted, buffer_taken, found_place, view_taken}
use Rattle.column_binview.specs.SourceViews.{GivesList, AreFineViews, AreFineRows, pushed_view_row}
use Rattle.column_binview.specs.Builders.{ViewBuilder}

noted_sources : (taken : SourceBuffers) (source buffer place : ℕ) → (place_noted taken source buffer place).sources ≡ taken.sources
unfolding place_noted
noted_sources taken source buffer place = refl

found_sources : (found : Option ℕ) (bytes : BuilderBytes) (source buffer : ℕ) → (buffer_taken found bytes source buffer).taken.sources ≡ bytes.taken.sources
found_sources None bytes source buffer = noted_sources bytes.taken source buffer _
found_sources (Some place) bytes source buffer = refl

taken_if : (long : Bool) (bytes : BuilderBytes) (view : List ℕ) (source : ℕ) → (if long then buffer_taken (found_place bytes view source) bytes source (view_index view) else bytes).taken.sources ≡ bytes.taken.sources
taken_if true bytes view source = found_sources (found_place bytes view source) bytes source (view_index view)
taken_if false bytes view source = refl

-- a view that is taken leaves the sources
pub sources-taken : (bytes : BuilderBytes) (view : List ℕ) (source : ℕ) → (view_taken bytes view source).taken.sources ≡ bytes.taken.sources
sources-taken bytes view source = taken_if (is_long view) bytes view source

-- a view that an iterator gives has no fault over a source that stayed
pub fine_view_given : {S : Type 0} (text : Bool) (steps : S → Option (List ℕ) → S → Type 0) (items first t u : S) (old new : SourceBuffers) (source : ℕ) (taken : List (List ℕ)) (view : List ℕ)
    → AreFineViews text (source_at old source) steps items → new.sources ≡ old.sources → first ≡ items → Yields steps first taken t → steps t (Some view) u → view_fault text view (source_at new source) ≡ None
fine_view_given {S} text steps items first t u old new source taken view fine same start given step =
    subst (λ (sources : List (List (List ℕ))). view_fault text view (slice_index_or sources source []) ≡ None) (sym same)
    (fine taken view u (t, subst (λ (s : S). Yields steps s taken t) start given, step))

pub fine_row_given : {S : Type 0} (text : Bool) (steps : S → Option (Option (List ℕ)) → S → Type 0) (items first t u : S) (old new : SourceBuffers) (source : ℕ) (taken : List (Option (List ℕ))) (row : Option (List ℕ))
    → AreFineRows text (source_at old source) steps items → new.sources ≡ old.sources → first ≡ items → Yields steps first taken t → steps t (Some row) u → IfSome row (λ view. view_fault text view (source_at new source) ≡ None)
fine_row_given {S} text steps items first t u old new source taken row fine same start given step =
    subst (λ (sources : List (List (List ℕ))). IfSome row (λ view. view_fault text view (slice_index_or sources source []) ≡ None)) (sym same)
    (fine taken row u (t, subst (λ (s : S). Yields steps s taken t) start given, step))

pub sources-row : (source : ℕ) (builder : ViewBuilder) (row : Option (List ℕ)) → (pushed_view_row source builder row).bytes.taken.sources ≡ builder.bytes.taken.sources
sources-row source builder None = refl
sources-row source builder (Some view) = sources-taken builder.bytes view source

-- ---- views that calls give of a list

module _ {S : Type 0} (text : Bool) (buffers : List (List ℕ)) (left : S → List (List ℕ)) (steps : S → Option (List ℕ) → S → Type 0) (lists : GivesList left steps) where
  fine_from : (taken : List (List ℕ)) (view : List ℕ) (s t u : S) → views_fault text (left s) buffers ≡ None → Yields steps s taken t → steps t (Some view) u → view_fault text view buffers ≡ None
  fine_from [] view s t u fine given step =
      let is = lists s view u (subst (λ (a : S). steps a (Some view) u) (sym given) step) in
      first_none (view_fault text view buffers) (views_fault text (left u) buffers) (subst (λ (views : List (List ℕ)). views_fault text views buffers ≡ None) is fine)
  fine_from (x ∷ taken) view s t u fine given step =
      let is = lists s x given.0 given.1 in
      fine_from taken view given.0 t u
      (rest_none (view_fault text x buffers) (views_fault text (left given.0) buffers) (subst (λ (views : List (List ℕ)). views_fault text views buffers ≡ None) is fine))
      given.2 step

  pub views_given : (items : S) → views_fault text (left items) buffers ≡ None → AreFineViews text buffers steps items
  views_given items fine = λ taken view u given. fine_from taken view items given.0 u fine given.1 given.2

fine_first : (text : Bool) (buffers : List (List ℕ)) (row : Option (List ℕ)) (rest : List (Option (List ℕ))) → views_fault text (filter_map (λ r. r) (row ∷ rest)) buffers ≡ None → IfSome row (λ view. view_fault text view buffers ≡ None)
fine_first text buffers None rest fine = tt
fine_first text buffers (Some view) rest fine = first_none (view_fault text view buffers) (views_fault text (filter_map (λ r. r) rest) buffers) fine

fine_others : (text : Bool) (buffers : List (List ℕ)) (row : Option (List ℕ)) (rest : List (Option (List ℕ))) → views_fault text (filter_map (λ r. r) (row ∷ rest)) buffers ≡ None → views_fault text (filter_map (λ r. r) rest) buffers ≡ None
fine_others text buffers None rest fine = fine
fine_others text buffers (Some view) rest fine = rest_none (view_fault text view buffers) (views_fault text (filter_map (λ r. r) rest) buffers) fine

module _ {S : Type 0} (text : Bool) (buffers : List (List ℕ)) (left : S → List (Option (List ℕ))) (steps : S → Option (Option (List ℕ)) → S → Type 0) (lists : GivesList left steps) where
  rows_from : (taken : List (Option (List ℕ))) (row : Option (List ℕ)) (s t u : S) → views_fault text (filter_map (λ r. r) (left s)) buffers ≡ None → Yields steps s taken t → steps t (Some row) u → IfSome row (λ view. view_fault text view buffers ≡ None)
  rows_from [] row s t u fine given step =
      let is = lists s row u (subst (λ (a : S). steps a (Some row) u) (sym given) step) in
      fine_first text buffers row (left u) (subst (λ (rows : List (Option (List ℕ))). views_fault text (filter_map (λ r. r) rows) buffers ≡ None) is fine)
  rows_from (x ∷ taken) row s t u fine given step =
      let is = lists s x given.0 given.1 in
      rows_from taken row given.0 t u
      (fine_others text buffers x (left given.0) (subst (λ (rows : List (Option (List ℕ))). views_fault text (filter_map (λ r. r) rows) buffers ≡ None) is fine))
      given.2 step

  pub rows_given : (items : S) → views_fault text (filter_map (λ row. row) (left items)) buffers ≡ None → AreFineRows text buffers steps items
  rows_given items fine = λ taken row u given. rows_from taken row items given.0 u fine given.1 given.2

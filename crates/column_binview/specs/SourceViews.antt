-- How a builder takes views of a source, one after another: this library's own.
use Rattle.std.specs.Prelude.{◌≡◌, ℕ, Bool, List, ◌∷◌, Option, Some, None, IfSome}
use Rattle.std.specs.Iterator.{YieldsThen}
use Rattle.column_base.specs.declared.errors.Cause.{Cause}
use Rattle.column_base.specs.Pushes.{Growth}
use Rattle.column_view.specs.ViewFaults.{view_fault}
use Rattle.column_blocks.specs.Blocks.{store_fault}
use Rattle.column_blocks.specs.Sources.{view_take_fault}
use Rattle.column_binview.specs.Builders.{ViewBuilder, pushed_value, pushed_null, source_content, pushed_source_view}

-- calls give the items of a list, first to last: each gives the first of those that are left, and leaves the others
abbrev pub GivesList : {S A : Type 0} → (S → List A) → (S → Option A → S → Type 0) → Type 0
GivesList {S} {A} left steps = (s : S) (x : A) (t : S) → steps s (Some x) t → left s ≡ x ∷ left t

-- no view that calls give has a fault over the buffers of a source
abbrev pub AreFineViews : {S : Type 0} → Bool → List (List ℕ) → (S → Option (List ℕ) → S → Type 0) → S → Type 0
AreFineViews {S} text buffers steps items =
    (taken : List (List ℕ)) (view : List ℕ) (t : S) → YieldsThen steps items taken (Some view) t → view_fault text view buffers ≡ None

-- the same of views that may be missing
abbrev pub AreFineRows : {S : Type 0} → Bool → List (List ℕ) → (S → Option (Option (List ℕ)) → S → Type 0) → S → Type 0
AreFineRows {S} text buffers steps items =
    (taken : List (Option (List ℕ))) (row : Option (List ℕ)) (t : S) → YieldsThen steps items taken (Some row) t
    → IfSome row (λ view. view_fault text view buffers ≡ None)

-- views whose buffers are taken
abbrev pub view_growth : ℕ → Growth ViewBuilder (List ℕ)
view_growth source = record {
  fault = λ builder view. view_take_fault builder.bytes view source;
  pushed = λ builder view. pushed_source_view builder view source;
}

-- The same, or null slots where there is none.
abbrev pub view_row_fault : ℕ → ViewBuilder → Option (List ℕ) → Option Cause
view_row_fault source builder None = None
view_row_fault source builder (Some view) = view_take_fault builder.bytes view source

abbrev pub pushed_view_row : ℕ → ViewBuilder → Option (List ℕ) → ViewBuilder
pushed_view_row source builder None = pushed_null builder
pushed_view_row source builder (Some view) = pushed_source_view builder view source

abbrev pub view_row_growth : ℕ → Growth ViewBuilder (Option (List ℕ))
view_row_growth source = record { fault = view_row_fault source; pushed = pushed_view_row source }

-- views whose bytes are copied
abbrev pub copy_growth : ℕ → Growth ViewBuilder (List ℕ)
copy_growth source = record {
  fault = λ builder view. store_fault builder.bytes.blocks (source_content builder view source);
  pushed = λ builder view. pushed_value builder (source_content builder view source);
}

-- Laws of views that are made one after another.
use Rattle.std.proofs.Common.{◌≡◌, ◌⊎◌, ℕ, zero, suc, ◌+◌, ◌<◌, Bool, List, [], ◌∷◌, ◌++◌, length, get_or, None, refl, sym, ◌∙◌, ap, subst, arith, inl, inr}
use Rattle.std.proofs.lemmas.List.{length-append}
use Rattle.column_base.specs.Slots.{slot_at}
use Rattle.column_view.specs.ViewFaults.{view_fault, views_fault}
use Rattle.column_view.proofs.FaultsLemmas.{first_none, rest_none, none_both}
use Rattle.column_binview.specs.Slots.{ViewLists, view_slots}
use Rattle.column_binview.specs.Updates.{view_at, AreMadeOf}

-- one more view without a fault
pub fine_more : (text : Bool) (views buffers : List (List ℕ)) (view : List ℕ) → views_fault text views buffers ≡ None → view_fault text view buffers ≡ None → views_fault text (views ++ view ∷ []) buffers ≡ None
fine_more text [] buffers view fine this = none_both (view_fault text view buffers) None this refl
fine_more text (first ∷ views) buffers view fine this =
    none_both (view_fault text first buffers) (views_fault text (views ++ view ∷ []) buffers)
    (first_none (view_fault text first buffers) (views_fault text views buffers) fine)
    (fine_more text views buffers view (rest_none (view_fault text first buffers) (views_fault text views buffers) fine) this)

-- the views before the last, and the last
before_last : (views : List (List ℕ)) (view : List ℕ) (i : ℕ) → i < length views → view_at (views ++ view ∷ []) i ≡ view_at views i
before_last [] view i within = absurd (omega arith)
before_last (first ∷ views) view zero within = refl
before_last (first ∷ views) view (suc i) within = before_last views view i (omega arith)

at_last : (views : List (List ℕ)) (view : List ℕ) (i : ℕ) → i ≡ length views → view_at (views ++ view ∷ []) i ≡ view
at_last [] view i is = rw is refl
at_last (first ∷ views) view zero is = absurd (omega arith)
at_last (first ∷ views) view (suc i) is = at_last views view i (omega arith)

-- a view that is there, whatever is read past the end
any_default : (views : List (List ℕ)) (i : ℕ) (d e : List ℕ) → i < length views → get_or views i d ≡ get_or views i e
any_default [] i d e within = absurd (omega arith)
any_default (view ∷ views) zero d e within = refl
any_default (view ∷ views) (suc i) d e within = any_default views i d e (omega arith)

pub read_at : (views items : List (List ℕ)) (i : ℕ) (view : List ℕ) → view ≡ get_or items i view → items ≡ views → i < length views → view ≡ view_at views i
read_at views items i view at same within =
    at ∙ ap (λ (xs : List (List ℕ)). get_or xs i view) same ∙ any_default views i view [] within

below_or_last : (i n : ℕ) → i < n + 1 → (i < n) ⊎ (i ≡ n)
below_or_last zero zero within = inr refl
below_or_last zero (suc n) within = inl (omega arith)
below_or_last (suc i) zero within = absurd (omega arith)
below_or_last (suc i) (suc n) within = elim (below_or_last i n (omega arith)) [ inl less ↦ inl (omega arith) | inr same ↦ inr (ap suc same) ]

module _ (R : List ℕ → List ℕ → List ℕ → Type 0) (lists : ViewLists) (n : ℕ) (views : List (List ℕ)) (view : List ℕ) (made : AreMadeOf R lists n views) (last : R (view_at lists.views n) (slot_at (view_slots lists) n).bytes view) where
  each_more : (i : ℕ) → (i < n) ⊎ (i ≡ n) → R (view_at lists.views i) (slot_at (view_slots lists) i).bytes (view_at (views ++ view ∷ []) i)
  each_more i (inl less) =
      let count = made.count in
      subst (R (view_at lists.views i) (slot_at (view_slots lists) i).bytes) (sym (before_last views view i (omega arith))) (made.each i less)
  each_more i (inr same) =
      let count = made.count in
      let is : view_at (views ++ view ∷ []) i ≡ view = at_last views view i (omega arith) in
      subst (R (view_at lists.views i) (slot_at (view_slots lists) i).bytes) (sym is)
      (subst (λ (k : ℕ). R (view_at lists.views k) (slot_at (view_slots lists) k).bytes view) (sym same) last)

  pub made_more : AreMadeOf R lists (n + 1) (views ++ view ∷ [])
  made_more = record {
    count = let count = made.count in let more = length-append views (view ∷ []) in omega arith;
    each = λ i within. each_more i (below_or_last i n within);
  }

pub made_none : (R : List ℕ → List ℕ → List ℕ → Type 0) (lists : ViewLists) → AreMadeOf R lists 0 []
made_none R lists = record { count = refl; each = λ i within. absurd (omega arith) }

-- the views of all slots
pub made_all : {R : List ℕ → List ℕ → List ℕ → Type 0} (lists : ViewLists) (n k : ℕ) (views others : List (List ℕ)) → AreMadeOf R lists n views → n ≡ k → others ≡ views → AreMadeOf R lists k others
made_all lists n k views others made all same = record {
  count = ap length same ∙ made.count ∙ all;
  each = λ i within. rw same (made.each i (rw all within));
}

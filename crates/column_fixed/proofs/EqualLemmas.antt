-- Laws of lists that are compared element by element, and of rows.
use Rattle.std.proofs.Common.{◌≡◌, ◌↔◌, ℕ, zero, suc, ◌+◌, ◌<◌, Bool, true, false, List, [], ◌∷◌, length, map, get_or, Option, Some, None, refl, sym, ◌∙◌, ap, arith}
use Rattle.std.specs.Prelude.{◌&&◌}
use Rattle.std.specs.Bool.{Decides}
use Rattle.std.specs.Cmp.{IsEquivalence}
use Rattle.std.specs.Cmp.Lexicographic.{pointwise, pointwise_decides, bytes_decides, nat_list_eq_equiv, options_equiv, lists_equiv}
use Rattle.std.specs.Option.{option_eq}
use Rattle.std.specs.Prelude.{nat_eq}
use Rattle.std.proofs.lemmas.List.{get_or-map, length-map}
use Rattle.column_base.specs.Kinds.{Slot}
use Rattle.column_base.specs.Slots.{slot_at, row_of, rows_of}
use Rattle.column_fixed.specs.Slots.{fixed_slots}
use Rattle.column_fixed.specs.Rows.{GrowingFixed, is_same_row, are_same_rows}

never : (b : Bool) → (b && false) ≡ false
never true = refl
never false = refl

module _ {X : Type 0} (same : X → X → Bool) where
  lengths_differ : (xs ys : List X) → (length xs ≡ length ys → ⊥) → pointwise same xs ys ≡ false
  lengths_differ [] [] differ = absurd (differ refl)
  lengths_differ [] (y ∷ ys) differ = refl
  lengths_differ (x ∷ xs) [] differ = refl
  lengths_differ (x ∷ xs) (y ∷ ys) differ = rw (lengths_differ xs ys (λ e. differ (ap suc e))) (never (same x y))

  element_differs : (xs ys : List X) (i : ℕ) (d : X) → i < length xs → i < length ys → same (get_or xs i d) (get_or ys i d) ≡ false → pointwise same xs ys ≡ false
  element_differs [] ys i d within there differ = absurd (omega arith)
  element_differs (x ∷ xs) [] i d within there differ = absurd (omega arith)
  element_differs (x ∷ xs) (y ∷ ys) zero d within there differ = rw differ refl
  element_differs (x ∷ xs) (y ∷ ys) (suc i) d within there differ = rw (element_differs xs ys i d (omega arith) (omega arith) differ) (never (same x y))

  all_same : (xs ys : List X) (d : X) → length xs ≡ length ys → ((k : ℕ) → k < length xs → same (get_or xs k d) (get_or ys k d) ≡ true) → pointwise same xs ys ≡ true
  all_same [] [] d count each = refl
  all_same [] (y ∷ ys) d count each = absurd (omega arith)
  all_same (x ∷ xs) [] d count each = absurd (omega arith)
  all_same (x ∷ xs) (y ∷ ys) d count each =
      rw (each 0 (omega arith), all_same xs ys d (omega arith) (λ k within. each (suc k) (omega arith))) refl

-- ---- rows

row_at : (slots : List Slot) (i : ℕ) → i < length slots → get_or (rows_of slots) i None ≡ row_of (slot_at slots i)
row_at slots i within = get_or-map row_of slots i _ None within

count_rows : (slots : List Slot) → length (rows_of slots) ≡ length slots
count_rows slots = length-map slots row_of

pub counts_differ : (slots others : List Slot) → (length slots ≡ length others → ⊥) → pointwise (option_eq (pointwise nat_eq)) (rows_of slots) (rows_of others) ≡ false
counts_differ slots others differ = lengths_differ (option_eq (pointwise nat_eq)) (rows_of slots) (rows_of others) (λ e. differ (sym (count_rows slots) ∙ e ∙ count_rows others))

pub row_differs : (slots others : List Slot) (i : ℕ) → i < length slots → i < length others → is_same_row (slot_at slots i) (slot_at others i) ≡ false → pointwise (option_eq (pointwise nat_eq)) (rows_of slots) (rows_of others) ≡ false
row_differs slots others i within there differ =
    let n = count_rows slots in
    let m = count_rows others in
    element_differs (option_eq (pointwise nat_eq)) (rows_of slots) (rows_of others) i None (omega arith) (omega arith)
    (rw (row_at slots i within, row_at others i there) differ)

pub rows_same : (slots others : List Slot) → length slots ≡ length others → ((k : ℕ) → k < length slots → is_same_row (slot_at slots k) (slot_at others k) ≡ true) → pointwise (option_eq (pointwise nat_eq)) (rows_of slots) (rows_of others) ≡ true
rows_same slots others count each =
    let n = count_rows slots in
    all_same (option_eq (pointwise nat_eq)) (rows_of slots) (rows_of others) None (n ∙ count ∙ sym (count_rows others))
    (λ k within. rw (row_at slots k (omega arith), row_at others k (omega arith)) (each k (omega arith)))

pub ruleset equality = (counts_differ, row_differs, rows_same)

-- ---- equality is that of rows

row_decides : (a b : Option (List ℕ)) → Decides (option_eq (pointwise nat_eq) a b) (a ≡ b)
row_decides None None = (λ e. refl, λ e. refl)
row_decides None (Some y) = (λ e. absurd (cc), λ e. absurd (cc))
row_decides (Some x) None = (λ e. absurd (cc), λ e. absurd (cc))
row_decides (Some x) (Some y) = (λ e. ap Some ((bytes_decides x y).0 e), λ e. (bytes_decides x y).1 (cc))

pub rows_decide : (a b : GrowingFixed) → (are_same_rows a b ≡ true) ↔ (rows_of (fixed_slots a.lists) ≡ rows_of (fixed_slots b.lists))
rows_decide a b = pointwise_decides row_decides (rows_of (fixed_slots a.lists)) (rows_of (fixed_slots b.lists))

rows_equiv : IsEquivalence (pointwise (option_eq (pointwise nat_eq)))
rows_equiv = lists_equiv (options_equiv nat_list_eq_equiv)

pub rows_reflexive : (a : GrowingFixed) → are_same_rows a a ≡ true
rows_reflexive a = rows_equiv.refl (rows_of (fixed_slots a.lists))

pub rows_symmetric : (a b : GrowingFixed) → are_same_rows a b ≡ true → are_same_rows b a ≡ true
rows_symmetric a b e = sym (rows_equiv.symm (rows_of (fixed_slots a.lists)) (rows_of (fixed_slots b.lists))) ∙ e

pub rows_transitive : (a b c : GrowingFixed) → are_same_rows a b ≡ true → are_same_rows b c ≡ true → are_same_rows a c ≡ true
rows_transitive a b c e f = rows_equiv.congr (rows_of (fixed_slots a.lists)) (rows_of (fixed_slots b.lists)) (rows_of (fixed_slots c.lists)) e ∙ f

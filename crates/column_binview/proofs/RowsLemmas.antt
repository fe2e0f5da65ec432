-- Laws of equality of rows.
use Rattle.std.proofs.Common.{◌≡◌, ◌↔◌, ℕ, zero, suc, ◌+◌, ◌<◌, Bool, true, false, List, [], ◌∷◌, ◌++◌, length, map, take, drop, slice_get, Option, Some, None, refl, sym, ◌∙◌, ap, arith}
use Rattle.std.specs.Prelude.{◌&&◌, pos}
use Rattle.std.specs.Bool.{Decides}
use Rattle.std.specs.Cmp.Lexicographic.{pointwise, pointwise_decides, bytes_decides}
use Rattle.column_base.specs.Kinds.{Slot}
use Rattle.column_base.specs.Slots.{slot_at, row_of, rows_of}
use Rattle.column_binview.specs.Slots.{ViewLists, view_slots}
use Rattle.column_binview.specs.Rows.{row_eq, rows_eq}

-- ---- one row after another

pub rows_step : (xs ys : List Slot) (i : ℕ) → i < length xs → i < length ys
    → pointwise row_eq (drop i (rows_of xs)) (drop i (rows_of ys)) ≡ row_eq (row_of (slot_at xs i)) (row_of (slot_at ys i)) && pointwise row_eq (drop (i + 1) (rows_of xs)) (drop (i + 1) (rows_of ys))
rows_step [] ys i within_x within_y = absurd (omega arith)
rows_step (x ∷ xs) [] i within_x within_y = absurd (omega arith)
rows_step (x ∷ xs) (y ∷ ys) zero within_x within_y = refl
rows_step (x ∷ xs) (y ∷ ys) (suc i) within_x within_y =
    let more : suc i + 1 ≡ suc (i + 1) = omega arith in rw more (rows_step xs ys i (omega arith) (omega arith))

pub rows_done : (xs ys : List Slot) (n : ℕ) → length xs ≡ n → length ys ≡ n → pointwise row_eq (drop n (rows_of xs)) (drop n (rows_of ys)) ≡ true
rows_done [] [] n count_x count_y = let none : n ≡ 0 = omega arith in rw none refl
rows_done [] (y ∷ ys) n count_x count_y = absurd (omega arith)
rows_done (x ∷ xs) [] n count_x count_y = absurd (omega arith)
rows_done (x ∷ xs) (y ∷ ys) zero count_x count_y = absurd (omega arith)
rows_done (x ∷ xs) (y ∷ ys) (suc n) count_x count_y = rows_done xs ys n (omega arith) (omega arith)

-- one row told that the rest is or is not the same
not_same : (r rest : Bool) → r ≡ false → false ≡ (r && rest)
not_same true rest is = absurd (cc)
not_same false rest is = refl

still_same : (r rest : Bool) → r ≡ true → rest ≡ (r && rest)
still_same true rest is = refl
still_same false rest is = absurd (cc)

pub rows_differ : (a b : ViewLists) (i : ℕ) (r : Bool) → i < length (view_slots a) → i < length (view_slots b) → r ≡ row_eq (row_of (slot_at (view_slots a) i)) (row_of (slot_at (view_slots b) i)) → r ≡ false
    → pointwise row_eq (drop i (rows_of (view_slots a))) (drop i (rows_of (view_slots b))) ≡ rows_eq a b → false ≡ rows_eq a b
rows_differ a b i r within_a within_b is test so_far =
    let rest = pointwise row_eq (drop (i + 1) (rows_of (view_slots a))) (drop (i + 1) (rows_of (view_slots b))) in
    not_same r rest test ∙ ap (λ (same : Bool). same && rest) is ∙ sym (rows_step (view_slots a) (view_slots b) i within_a within_b) ∙ so_far

pub rows_go_on : (a b : ViewLists) (i : ℕ) (r : Bool) → i < length (view_slots a) → i < length (view_slots b) → r ≡ row_eq (row_of (slot_at (view_slots a) i)) (row_of (slot_at (view_slots b) i)) → r ≡ true
    → pointwise row_eq (drop i (rows_of (view_slots a))) (drop i (rows_of (view_slots b))) ≡ rows_eq a b
    → pointwise row_eq (drop (i + 1) (rows_of (view_slots a))) (drop (i + 1) (rows_of (view_slots b))) ≡ rows_eq a b
rows_go_on a b i r within_a within_b is test so_far =
    let rest = pointwise row_eq (drop (i + 1) (rows_of (view_slots a))) (drop (i + 1) (rows_of (view_slots b))) in
    still_same r rest test ∙ ap (λ (same : Bool). same && rest) is ∙ sym (rows_step (view_slots a) (view_slots b) i within_a within_b) ∙ so_far

row_decides : (a b : Option (List ℕ)) → Decides (row_eq a b) (a ≡ b)
row_decides None None = (λ same. refl, λ same. refl)
row_decides None (Some y) = (λ same. absurd (cc), λ same. absurd (cc))
row_decides (Some x) None = (λ same. absurd (cc), λ same. absurd (cc))
row_decides (Some x) (Some y) = (λ same. ap Some ((bytes_decides x y).0 same), λ same. (bytes_decides x y).1 (cc))

pub rows_decide : (a b : ViewLists) → (rows_eq a b ≡ true) ↔ (rows_of (view_slots a) ≡ rows_of (view_slots b))
rows_decide a b = pointwise_decides row_decides (rows_of (view_slots a)) (rows_of (view_slots b))

-- ---- the lengths of buffers

pub lengths_more : (buffers : List (List ℕ)) (i : ℕ) (buffer : List ℕ) → slice_get buffers i ≡ Some buffer
    → map (λ (bytes : List ℕ). pos (length bytes)) (take i buffers) ++ pos (length buffer) ∷ [] ≡ map (λ (bytes : List ℕ). pos (length bytes)) (take (i + 1) buffers)
lengths_more [] i buffer at = absurd (cc)
lengths_more (first ∷ buffers) zero buffer at = let same : first ≡ buffer = cc in rw same refl
lengths_more (first ∷ buffers) (suc i) buffer at =
    let more : suc i + 1 ≡ suc (i + 1) = omega arith in
    rw more (ap (λ lengths. pos (length first) ∷ lengths) (lengths_more buffers i buffer at))

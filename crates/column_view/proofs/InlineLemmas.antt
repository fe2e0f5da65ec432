-- The law of inline views.
use Rattle.std.proofs.Common.{◌≡◌, ◌↔◌, ℕ, zero, suc, ◌+◌, ◌-◌, ◌<◌, ◌≤◌, true, false, not, ◌==◌, List, [], ◌∷◌, ◌++◌, length, take, drop, get_or, replicate, None, refl, sym, ◌∙◌, ap, arith}
use Rattle.std.proofs.lemmas.Bool.Decides.{nat_tests}
use Rattle.std.proofs.lemmas.List.{length-take-le, length-drop, drop-drop, take-append-drop, append_assoc}
use Rattle.std.proofs.lemmas.Nat.{le_bytes_4}
use Rattle.std.specs.Int.{w32, to_le_bytes, from_le_bytes}
use Rattle.std.specs.List.{list_any}
use Rattle.column_base.specs.declared.errors.Cause.TheVariants.{NonZeroPadding}
use Rattle.column_base.proofs.AnswersLemmas.{cause_none}
use Rattle.column_view.specs.Views.{IsView, view_length, view_content, is_long, inline_content, inline_view}
use Rattle.column_view.specs.ViewFaults.{layout_fault}

zeros : (xs : List ℕ) → list_any (λ byte. not (byte == 0)) xs ≡ false → xs ≡ replicate (length xs) 0
zeros [] none = refl
zeros (zero ∷ xs) none = ap (λ rest. 0 ∷ rest) (zeros xs none)
zeros (suc n ∷ xs) none = absurd (let some : not (suc n == 0) ≡ true = grind (arith, nat_tests) in cc)

below : (n : ℕ) (xs : List ℕ) → ((i : ℕ) → get_or xs i 0 < 256) → (i : ℕ) → get_or (take n xs) i 0 < 256
below zero xs low i = omega arith
below (suc n) [] low i = omega arith
below (suc n) (x ∷ xs) low zero = low zero
below (suc n) (x ∷ xs) low (suc i) = below n xs (λ j. low (suc j)) i

-- the first four bytes are those of the length
length_bytes : (view : List ℕ) → IsView view → to_le_bytes w32 (view_length view) ≡ take 4 view
unfolding view_length
length_bytes view is =
    le_bytes_4 (take 4 view) (from_le_bytes w32 (take 4 view)) (let n = is.count in length-take-le 4 view (omega arith)) (below 4 view is.bytes) refl

module _ (view : List ℕ) (buffers : List (List ℕ)) (is : IsView view) (short : is_long view ≡ false) (fine : layout_fault view buffers ≡ None) where
  few : view_length view ≤ 12
  few = grind (arith, nat_tests)

  content_is : view_content view buffers ≡ inline_content view
  unfolding view_content
  content_is = rw short refl

  padding : list_any (λ byte. not (byte == 0)) (drop (4 + view_length view) view) ≡ false
  unfolding layout_fault
  padding = cause_none _ NonZeroPadding (rw short at fine)

  -- the view is the one that holds its content
  view_is : view ≡ inline_view (inline_content view)
  unfolding inline_view
  view_is =
      let n = view_length view in
      let count : length view ≡ 16 = is.count in
      let size : length (inline_content view) ≡ n = length-take-le n (drop 4 view) (let h = few in let rest = length-drop 4 view in omega arith) in
      let left : length (drop (4 + n) view) ≡ 12 - n = let rest = length-drop (4 + n) view in omega arith in
      let tail : drop n (drop 4 view) ≡ replicate (12 - n) 0 =
      drop-drop n 4 view ∙ zeros (drop (4 + n) view) padding ∙ ap (λ (k : ℕ). replicate k 0) left in
      rw size
      (sym (take-append-drop 4 view)
      ∙ ap (λ (rest : List ℕ). take 4 view ++ rest) (sym (take-append-drop n (drop 4 view)))
      ∙ ap (λ (rest : List ℕ). take 4 view ++ (inline_content view ++ rest)) tail
      ∙ sym (append_assoc (take 4 view) (inline_content view) (replicate (12 - n) 0))
      ∙ ap (λ (first : List ℕ). first ++ inline_content view ++ replicate (12 - n) 0) (sym (length_bytes view is)))

pub same_where_contents : (a b : List ℕ) (buffers others : List (List ℕ)) → IsView a → IsView b → is_long a ≡ false → is_long b ≡ false → layout_fault a buffers ≡ None → layout_fault b others ≡ None → (a ≡ b) ↔ (view_content a buffers ≡ view_content b others)
same_where_contents a b buffers others view_a view_b short_a short_b fine_a fine_b =
    let content_a = content_is a buffers view_a short_a fine_a in
    let content_b = content_is b others view_b short_b fine_b in (
      λ same. content_a ∙ ap inline_content same ∙ sym content_b,
      λ same. view_is a buffers view_a short_a fine_a ∙ ap inline_view (sym content_a ∙ same ∙ content_b) ∙ sym (view_is b others view_b short_b fine_b),
    )

-- Laws of a list that is cut into pieces of equal length.
use Rattle.std.proofs.Common.{◌≡◌, ℕ, zero, suc, ◌+◌, ◌-◌, ◌*◌, ◌/◌, ◌<◌, ◌≤◌, List, [], ◌∷◌, ◌++◌, length, take, drop, get_or, refl, sym, ◌∙◌, ap, arith}
use Rattle.std.specs.Simd.{first_chunks}
use Rattle.std.proofs.lemmas.List.{length-drop, drop-drop, drop-take, take-take, take-append-le, drop-append-le, take_all, nil_from_length}
use Rattle.column_base.specs.Lists.{sublist}

one_more : (w k : ℕ) → suc k * w ≡ w + k * w
one_more w k = omega arith

module _ {X : Type 0} where
  pub length-chunks : (w k : ℕ) (xs : List X) → length (first_chunks w k xs) ≡ k
  length-chunks w zero xs = refl
  length-chunks w (suc k) xs = ap suc (length-chunks w k (drop w xs))

  -- the pieces from a place on
  pub chunks-drop : (w f k : ℕ) (xs : List X) → first_chunks w k (drop (f * w) xs) ≡ drop f (first_chunks w (f + k) xs)
  chunks-drop w zero k xs = let e : 0 + k ≡ k = omega arith in let z : 0 * w ≡ 0 = omega arith in rw (e, z) refl
  chunks-drop w (suc f) k xs =
      let e : suc f + k ≡ suc (f + k) = omega arith in
      rw (e, one_more w f) (ap (first_chunks w k) (sym (drop-drop (f * w) w xs)) ∙ chunks-drop w f k (drop w xs))

  -- the first of the pieces
  pub chunks-take : (w k m : ℕ) (xs : List X) → take k (first_chunks w (k + m) xs) ≡ first_chunks w k xs
  chunks-take w zero m xs = refl
  chunks-take w (suc k) m xs =
      let e : suc k + m ≡ suc (k + m) = omega arith in
      rw e (ap (λ (rest : List (List X)). take w xs ∷ rest) (chunks-take w k m (drop w xs)))

  -- no piece reaches past the last
  pub chunks-front : (w k : ℕ) (xs : List X) → first_chunks w k (take (k * w) xs) ≡ first_chunks w k xs
  chunks-front w zero xs = refl
  chunks-front w (suc k) xs =
      rw (one_more w k) (
      ap (λ (piece : List X). piece ∷ first_chunks w k (drop w (take (w + k * w) xs))) (take-take w (w + k * w) xs (omega arith))
      ∙ ap (λ (rest : List X). take w xs ∷ first_chunks w k rest) (drop-take w (k * w) xs)
      ∙ ap (λ (rest : List (List X)). take w xs ∷ rest) (chunks-front w k (drop w xs)))

  -- a part of the pieces is those of a part
  pub chunks-sublist : (w k f n : ℕ) (xs : List X) → f + n ≤ k → first_chunks w n (sublist xs (f * w) (n * w)) ≡ sublist (first_chunks w k xs) f n
  chunks-sublist w k f n xs within =
      let rest = k - (f + n) in
      let all : k ≡ f + (n + rest) = omega arith in
      chunks-front w n (drop (f * w) xs)
      ∙ sym (chunks-take w n rest (drop (f * w) xs))
      ∙ ap (take n) (chunks-drop w f (n + rest) xs)
      ∙ ap (λ (m : ℕ). take n (drop f (first_chunks w m xs))) (sym all)

  -- the piece at a place
  pub chunk_at : (w k i : ℕ) (xs : List X) → i < k → get_or (first_chunks w k xs) i [] ≡ sublist xs (i * w) w
  chunk_at w zero i xs within = absurd (omega arith)
  chunk_at w (suc k) zero xs within = let z : 0 * w ≡ 0 = omega arith in rw z refl
  chunk_at w (suc k) (suc i) xs within =
      rw (one_more w i) (chunk_at w k i (drop w xs) (omega arith) ∙ ap (take w) (drop-drop (i * w) w xs))

  -- pieces of one list and of another after it
  pub chunks-append : (w k m : ℕ) (xs ys : List X) → length xs ≡ k * w → first_chunks w (k + m) (xs ++ ys) ≡ first_chunks w k xs ++ first_chunks w m ys
  chunks-append w zero m xs ys same =
      let e : 0 + m ≡ m = omega arith in
      let none = nil_from_length xs (same ∙ omega arith) in
      rw (e, none) refl
  chunks-append w (suc k) m xs ys same =
      let e : suc k + m ≡ suc (k + m) = omega arith in
      let size : length xs ≡ w + k * w = same ∙ one_more w k in
      let left : length (drop w xs) ≡ k * w = length-drop w xs ∙ omega arith in
      rw e (
      ap (λ (piece : List X). piece ∷ first_chunks w (k + m) (drop w (xs ++ ys))) (take-append-le w xs ys (omega arith))
      ∙ ap (λ (rest : List X). take w xs ∷ first_chunks w (k + m) rest) (drop-append-le w xs ys (omega arith))
      ∙ ap (λ (rest : List (List X)). take w xs ∷ rest) (chunks-append w k m (drop w xs) ys left))

  -- a list is its one piece
  pub chunk_of : (w : ℕ) (xs : List X) → length xs ≡ w → first_chunks w 1 xs ≡ xs ∷ []
  chunk_of w xs same = ap (λ (piece : List X). piece ∷ []) (take_all w xs (omega arith))

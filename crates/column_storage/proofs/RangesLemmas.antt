-- Laws of what is left of a list from a place up to another.
use Rattle.std.proofs.Common.{◌≡◌, ℕ, zero, suc, ◌+◌, ◌-◌, ◌<◌, ◌≤◌, List, [], ◌∷◌, ◌++◌, length, take, drop, slice_range, slice_get, Some, refl, sym, ◌∙◌, ap, arith}
use Rattle.std.proofs.lemmas.List.{length-take, length-drop, take-take, drop-take, drop-drop, drop_all}
use Rattle.std.proofs.lemmas.Grind.{common_steps}

-- the first of what is left
pub range-first : {X : Type 0} (xs : List X) (i e : ℕ) (x : X) → slice_get xs i ≡ Some x → i < e → slice_range xs i e ≡ x ∷ slice_range xs (i + 1) e
range-first [] i e x at within = absurd (grind (arith, common_steps))
range-first (y ∷ xs) zero (suc e) x at within = grind (arith, common_steps)
range-first (y ∷ xs) (suc i) (suc e) x at within = grind (arith, common_steps, range-first xs i e x)
range-first (y ∷ xs) i zero x at within = absurd (omega arith)

-- the last of what is left
pub range-last : {X : Type 0} (xs : List X) (i e : ℕ) (x : X) → slice_get xs e ≡ Some x → i ≤ e → slice_range xs i (e + 1) ≡ slice_range xs i e ++ x ∷ []
range-last [] i e x at within = absurd (grind (arith, common_steps))
range-last (y ∷ xs) zero zero x at within = grind (arith, common_steps)
range-last (y ∷ xs) zero (suc e) x at within = grind (arith, common_steps, range-last xs 0 e x)
range-last (y ∷ xs) (suc i) (suc e) x at within = grind (arith, common_steps, range-last xs i e x)
range-last (y ∷ xs) (suc i) zero x at within = absurd (omega arith)

-- what is left past n more
pub range-drop : {X : Type 0} (xs : List X) (i e n : ℕ) → i + n ≤ e → drop n (slice_range xs i e) ≡ slice_range xs (i + n) e
range-drop xs i e n within =
    let m = e - (i + n) in
    let parts : e - i ≡ n + m = omega arith in
    ap (λ k. drop n (take k (drop i xs))) parts
    ∙ drop-take n m (drop i xs)
    ∙ ap (take m) (drop-drop n i xs)

-- the first k of what is left
pub range-take : {X : Type 0} (xs : List X) (i e k : ℕ) → i + k ≤ e → take k (slice_range xs i e) ≡ slice_range xs i (i + k)
range-take xs i e k within =
    let same : i + k - i ≡ k = omega arith in
    take-take k (e - i) (drop i xs) (omega arith) ∙ ap (λ n. take n (drop i xs)) (sym same)

get-drop : {X : Type 0} (xs : List X) (i n : ℕ) → slice_get (drop i xs) n ≡ slice_get xs (i + n)
get-drop xs zero n = let same : 0 + n ≡ n = omega arith in ap (slice_get xs) (sym same)
get-drop [] (suc i) n = refl
get-drop (x ∷ xs) (suc i) n =
    let same : suc i + n ≡ suc (i + n) = omega arith in get-drop xs i n ∙ ap (slice_get (x ∷ xs)) (sym same)

get-take : {X : Type 0} (xs : List X) (k n : ℕ) → n < k → slice_get (take k xs) n ≡ slice_get xs n
get-take xs zero n within = absurd (omega arith)
get-take [] (suc k) n within = refl
get-take (x ∷ xs) (suc k) zero within = refl
get-take (x ∷ xs) (suc k) (suc n) within = get-take xs k n (omega arith)

-- the n-th of what is left
pub range-get : {X : Type 0} (xs : List X) (i e n : ℕ) → i + n < e → slice_get (slice_range xs i e) n ≡ slice_get xs (i + n)
range-get xs i e n within = get-take (drop i xs) (e - i) n (omega arith) ∙ get-drop xs i n

-- past n more that are left nothing is
pub range-past : {X : Type 0} (xs : List X) (i e n : ℕ) → e - i ≤ n → drop n (slice_range xs i e) ≡ []
range-past xs i e n past = drop_all n (slice_range xs i e) (simp length-take (omega arith))

pub range-length : {X : Type 0} (xs : List X) (i e : ℕ) → e ≤ length xs → length (slice_range xs i e) ≡ e - i
range-length xs i e within = simp (length-take, length-drop) (omega arith)

pub ruleset ranges = (range-first, range-last)

pub ruleset nths = (range-get, range-drop, range-take, range-past, range-length)

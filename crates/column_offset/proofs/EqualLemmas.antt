-- Equality of offsets is equality of their numbers.
use Rattle.std.proofs.Common.{◌≡◌, ℤ, Bool, List, [], ◌∷◌, map, refl}
use Rattle.std.specs.Cmp.Lexicographic.{pointwise}
use Rattle.std.specs.Ordering.{int_eq}

pub pointwise_numbers : {X : Type 0} (eq : X → X → Bool) (f : X → ℤ) → ((a b : X) → eq a b ≡ int_eq (f a) (f b)) → (xs ys : List X) → pointwise eq xs ys ≡ pointwise int_eq (map f xs) (map f ys)
pointwise_numbers eq f same [] [] = refl
pointwise_numbers eq f same [] (y ∷ ys) = refl
pointwise_numbers eq f same (x ∷ xs) [] = refl
pointwise_numbers eq f same (x ∷ xs) (y ∷ ys) = rw (same x y, pointwise_numbers eq f same xs ys) refl

pub ruleset equality = (pointwise_numbers)

-- Laws of optional values.
use Rattle.std.proofs.Common.{◌≡◌, suc, Bool, List, [], ◌∷◌, ◌++◌, length, Some, None, if◌then◌else◌, refl, ap, arith}
use Rattle.column_storage.specs.Bits.{optional_values}

pub length-optional_values : {X : Type 0} (bits : List Bool) (xs : List X) → length (optional_values bits xs) ≡ length xs
length-optional_values bits [] = refl
length-optional_values [] (x ∷ xs) = ap suc (length-optional_values [] xs)
length-optional_values (bit ∷ bits) (x ∷ xs) = ap suc (length-optional_values bits xs)

-- the last value, with no bits, and with as many
pub optional_values-last : {X : Type 0} (xs : List X) (x : X) → optional_values [] (xs ++ x ∷ []) ≡ optional_values [] xs ++ Some x ∷ []
optional_values-last [] x = refl
optional_values-last (y ∷ xs) x = ap (λ ys. Some y ∷ ys) (optional_values-last xs x)

pub optional_values-last_bit : {X : Type 0} (bits : List Bool) (bit : Bool) (xs : List X) (x : X) → length bits ≡ length xs → optional_values (bits ++ bit ∷ []) (xs ++ x ∷ []) ≡ optional_values bits xs ++ (if bit then Some x else None) ∷ []
optional_values-last_bit [] bit [] x same = refl
optional_values-last_bit [] bit (y ∷ xs) x same = absurd (omega arith)
optional_values-last_bit (b ∷ bits) bit [] x same = absurd (omega arith)
optional_values-last_bit (b ∷ bits) bit (y ∷ xs) x same =
    ap (λ ys. (if b then Some y else None) ∷ ys) (optional_values-last_bit bits bit xs x (omega arith))

pub ruleset optionals = (length-optional_values, optional_values-last, optional_values-last_bit)

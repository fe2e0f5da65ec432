-- Laws of slots that are made of flags and bytes.
use Rattle.std.proofs.Common.{◌≡◌, ℕ, zero, suc, ◌<◌, Bool, true, List, [], ◌∷◌, length, take, drop, get_or, refl, ◌∙◌, ap, arith}
use Rattle.column_base.specs.Lists.{sublist}
use Rattle.column_base.specs.Slots.{slots_by, slot_at, values_of}

slots_by-none : (flags : List Bool) → slots_by flags [] ≡ []
slots_by-none [] = refl
slots_by-none (flag ∷ flags) = refl

slots_by-take : (n : ℕ) (flags : List Bool) (values : List (List ℕ)) → slots_by (take n flags) (take n values) ≡ take n (slots_by flags values)
slots_by-take zero flags values = refl
slots_by-take (suc n) [] values = refl
slots_by-take (suc n) (flag ∷ flags) [] = refl
slots_by-take (suc n) (flag ∷ flags) (bytes ∷ values) = ap (λ rest. record { valid = flag; bytes = bytes } ∷ rest) (slots_by-take n flags values)

slots_by-drop : (n : ℕ) (flags : List Bool) (values : List (List ℕ)) → slots_by (drop n flags) (drop n values) ≡ drop n (slots_by flags values)
slots_by-drop zero flags values = refl
slots_by-drop (suc n) [] values = refl
slots_by-drop (suc n) (flag ∷ flags) [] = slots_by-none (drop n flags)
slots_by-drop (suc n) (flag ∷ flags) (bytes ∷ values) = slots_by-drop n flags values

pub slots_by-sublist : (flags : List Bool) (values : List (List ℕ)) (from n : ℕ) → slots_by (sublist flags from n) (sublist values from n) ≡ sublist (slots_by flags values) from n
slots_by-sublist flags values from n = slots_by-take n (drop from flags) (drop from values) ∙ ap (take n) (slots_by-drop from flags values)

pub length-slots_by : (flags : List Bool) (values : List (List ℕ)) → length flags ≡ length values → length (slots_by flags values) ≡ length flags
length-slots_by [] values same = refl
length-slots_by (flag ∷ flags) [] same = absurd (omega arith)
length-slots_by (flag ∷ flags) (bytes ∷ values) same = ap suc (length-slots_by flags values (omega arith))

pub values_of-slots_by : (flags : List Bool) (values : List (List ℕ)) → length flags ≡ length values → values_of (slots_by flags values) ≡ values
values_of-slots_by [] [] same = refl
values_of-slots_by [] (bytes ∷ values) same = absurd (omega arith)
values_of-slots_by (flag ∷ flags) [] same = absurd (omega arith)
values_of-slots_by (flag ∷ flags) (bytes ∷ values) same = ap (λ rest. bytes ∷ rest) (values_of-slots_by flags values (omega arith))

pub bytes-slots_by : (flags : List Bool) (values : List (List ℕ)) (i : ℕ) → length flags ≡ length values → i < length values → (slot_at (slots_by flags values) i).bytes ≡ get_or values i []
bytes-slots_by [] [] i same within = absurd (omega arith)
bytes-slots_by [] (bytes ∷ values) i same within = absurd (omega arith)
bytes-slots_by (flag ∷ flags) [] i same within = absurd (omega arith)
bytes-slots_by (flag ∷ flags) (bytes ∷ values) zero same within = refl
bytes-slots_by (flag ∷ flags) (bytes ∷ values) (suc i) same within = bytes-slots_by flags values i (omega arith) (omega arith)

pub valid-slots_by : (flags : List Bool) (values : List (List ℕ)) (i : ℕ) → length flags ≡ length values → i < length values → (slot_at (slots_by flags values) i).valid ≡ get_or flags i true
valid-slots_by [] [] i same within = absurd (omega arith)
valid-slots_by [] (bytes ∷ values) i same within = absurd (omega arith)
valid-slots_by (flag ∷ flags) [] i same within = absurd (omega arith)
valid-slots_by (flag ∷ flags) (bytes ∷ values) zero same within = refl
valid-slots_by (flag ∷ flags) (bytes ∷ values) (suc i) same within = valid-slots_by flags values i (omega arith) (omega arith)

-- Laws of lists that are compared element by element, and of rows.
use Rattle.std.proofs.Common.{◌≡◌, ◌↔◌, ℕ, zero, suc, ◌+◌, ◌<◌, ◌≤◌, Bool, true, false, List, [], ◌∷◌, ◌++◌, length, map, drop, replicate, Option, Some, None, refl, sym, ◌∙◌, ap, arith}
use Rattle.std.specs.Prelude.{slice_get, option_map, ◌&&◌, IfSome}
use Rattle.std.specs.List.{All, AllByRecursion}
use Rattle.std.specs.Bool.{Decides}
use Rattle.std.specs.Option.{option_eq}
use Rattle.std.specs.Cmp.{IsEquivalence}
use Rattle.std.specs.Cmp.Lexicographic.{pointwise, pointwise_decides, options_equiv, lists_equiv}
use Rattle.std.proofs.lemmas.List.{drop_all}
use Rattle.column_base.specs.Slots.{rows_of}
use Rattle.column_storage.specs.Bits.{given_bits, optional_values}
use Rattle.column_primitive.specs.Numbers.{NumberLists, number_slots, number_rows, AreSoundNumbers}
use Rattle.column_primitive.specs.Rows.{GrowingNumbers, are_same_rows}
use Rattle.column_primitive.proofs.NumbersLemmas.{rows_are}

module _ {X : Type 0} (eq : X → X → Bool) where
  pub pointwise-step : (xs ys : List X) (i : ℕ) (x y : X) → slice_get xs i ≡ Some x → slice_get ys i ≡ Some y → pointwise eq (drop i xs) (drop i ys) ≡ (eq x y && pointwise eq (drop (i + 1) xs) (drop (i + 1) ys))
  pointwise-step [] ys i x y at by = absurd (cc)
  pointwise-step (a ∷ xs) [] i x y at by = absurd (cc)
  pointwise-step (a ∷ xs) (b ∷ ys) zero x y at by = let here : a ≡ x = cc in let there : b ≡ y = cc in rw (here, there) refl
  pointwise-step (a ∷ xs) (b ∷ ys) (suc i) x y at by = let e : suc i + 1 ≡ suc (i + 1) = omega arith in rw e (pointwise-step xs ys i x y at by)

  -- what is left where the elements so far are equal
  pub equal_more : (xs ys : List X) (i : ℕ) (x y : X) → slice_get xs i ≡ Some x → slice_get ys i ≡ Some y → eq x y ≡ true → pointwise eq (drop i xs) (drop i ys) ≡ pointwise eq xs ys → pointwise eq (drop (i + 1) xs) (drop (i + 1) ys) ≡ pointwise eq xs ys
  equal_more xs ys i x y at by same so = sym (pointwise-step xs ys i x y at by ∙ ap (λ b. b && pointwise eq (drop (i + 1) xs) (drop (i + 1) ys)) same) ∙ so

  pub equal_none : (xs ys : List X) (i : ℕ) (x y : X) → slice_get xs i ≡ Some x → slice_get ys i ≡ Some y → eq x y ≡ false → pointwise eq (drop i xs) (drop i ys) ≡ pointwise eq xs ys → pointwise eq xs ys ≡ false
  equal_none xs ys i x y at by other so = sym so ∙ pointwise-step xs ys i x y at by ∙ ap (λ b. b && pointwise eq (drop (i + 1) xs) (drop (i + 1) ys)) other

  pub equal_all : (xs ys : List X) (i : ℕ) → length xs ≤ i → length ys ≤ i → pointwise eq (drop i xs) (drop i ys) ≡ true
  equal_all xs ys i all every = rw (drop_all i xs all, drop_all i ys every) refl

pub ruleset equality = (equal_more, equal_none, equal_all)

-- ---- rows

module _ {T : Type 0} (same : T → T → Bool) (is : IsEquivalence same) where
  row_decides : ((x y : T) → same x y ≡ true → x ≡ y) → (a b : Option T) → Decides (option_eq same a b) (a ≡ b)
  row_decides exact None None = (λ e. refl, λ e. refl)
  row_decides exact None (Some y) = (λ e. absurd (cc), λ e. absurd (cc))
  row_decides exact (Some x) None = (λ e. absurd (cc), λ e. absurd (cc))
  row_decides exact (Some x) (Some y) = (λ e. ap Some (exact x y e), λ e. let equal : x ≡ y = cc in rw equal (is.refl y))

  pub rows_decide : ((x y : T) → same x y ≡ true → x ≡ y) → (a b : GrowingNumbers T) → (are_same_rows same a b ≡ true) ↔ (number_rows a.array.lists ≡ number_rows b.array.lists)
  rows_decide exact a b = pointwise_decides (row_decides exact) (number_rows a.array.lists) (number_rows b.array.lists)

  rows_equiv : IsEquivalence (pointwise (option_eq same))
  rows_equiv = lists_equiv (options_equiv is)

  pub rows_reflexive : (a : GrowingNumbers T) → are_same_rows same a a ≡ true
  rows_reflexive a = rows_equiv.refl (number_rows a.array.lists)

  pub rows_symmetric : (a b : GrowingNumbers T) → are_same_rows same a b ≡ true → are_same_rows same b a ≡ true
  rows_symmetric a b e = sym (rows_equiv.symm (number_rows a.array.lists) (number_rows b.array.lists)) ∙ e

  pub rows_transitive : (a b c : GrowingNumbers T) → are_same_rows same a b ≡ true → are_same_rows same b c ≡ true → are_same_rows same a c ≡ true
  rows_transitive a b c e f = rows_equiv.congr (number_rows a.array.lists) (number_rows b.array.lists) (number_rows c.array.lists) e ∙ f

-- ---- rows as bytes, where numbers are what their bytes are read as

module _ {T : Type 0} (bytes : T → List ℕ) (read : List ℕ → T) (rest : ℕ) (IsValue : T → Type 0) (back : (x : T) → IsValue x → read (bytes x ++ replicate rest 0) ≡ x) where
  number_of_bytes : (x y : T) → IsValue x → IsValue y → bytes x ≡ bytes y → x ≡ y
  number_of_bytes x y one other e = sym (back x one) ∙ ap (λ b. read (b ++ replicate rest 0)) e ∙ back y other

  rows_fit : (bits : List Bool) (xs : List T) → All IsValue xs → AllByRecursion (λ row. IfSome row IsValue) (optional_values bits xs)
  rows_fit bits [] all = tt
  rows_fit [] (x ∷ xs) all = (all 0 x (omega arith), rows_fit [] xs (λ k d within. all (suc k) d (omega arith)))
  rows_fit (true ∷ bits) (x ∷ xs) all = (all 0 x (omega arith), rows_fit bits xs (λ k d within. all (suc k) d (omega arith)))
  rows_fit (false ∷ bits) (x ∷ xs) all = (tt, rows_fit bits xs (λ k d within. all (suc k) d (omega arith)))

  rows_exact : (xs ys : List (Option T)) → AllByRecursion (λ row. IfSome row IsValue) xs → AllByRecursion (λ row. IfSome row IsValue) ys → map (option_map bytes) xs ≡ map (option_map bytes) ys → xs ≡ ys
  rows_exact [] [] one other e = refl
  rows_exact [] (y ∷ ys) one other e = absurd (cc)
  rows_exact (x ∷ xs) [] one other e = absurd (cc)
  rows_exact (None ∷ xs) (None ∷ ys) one other e =
      let more : map (option_map bytes) xs ≡ map (option_map bytes) ys = cc in
      ap (λ (rows : List (Option T)). None ∷ rows) (rows_exact xs ys one.1 other.1 more)
  rows_exact (None ∷ xs) (Some y ∷ ys) one other e = absurd (cc)
  rows_exact (Some x ∷ xs) (None ∷ ys) one other e = absurd (cc)
  rows_exact (Some x ∷ xs) (Some y ∷ ys) one other e =
      let first : bytes x ≡ bytes y = cc in
      let more : map (option_map bytes) xs ≡ map (option_map bytes) ys = cc in
      ap (λ z. Some z ∷ xs) (number_of_bytes x y one.0 other.0 first) ∙ ap (λ rows. Some y ∷ rows) (rows_exact xs ys one.1 other.1 more)

  rows_of_bytes : (a b : NumberLists T) → AreSoundNumbers a → AreSoundNumbers b → All IsValue a.numbers → All IsValue b.numbers → (number_rows a ≡ number_rows b) ↔ (rows_of (number_slots bytes a) ≡ rows_of (number_slots bytes b))
  rows_of_bytes a b sound other fit fits = (
    λ e. rows_are bytes a sound ∙ ap (map (option_map bytes)) e ∙ sym (rows_are bytes b other),
    λ e. rows_exact (number_rows a) (number_rows b) (rows_fit (given_bits a.flags) a.numbers fit) (rows_fit (given_bits b.flags) b.numbers fits) (sym (rows_are bytes a sound) ∙ e ∙ rows_are bytes b other),
  )

  pub bytes_decide : (same : T → T → Bool) → IsEquivalence same → ((x y : T) → same x y ≡ true → x ≡ y) → (a b : GrowingNumbers T) → AreSoundNumbers a.array.lists → AreSoundNumbers b.array.lists
      → All IsValue a.array.lists.numbers → All IsValue b.array.lists.numbers
      → (are_same_rows same a b ≡ true) ↔ (rows_of (number_slots bytes a.array.lists) ≡ rows_of (number_slots bytes b.array.lists))
  bytes_decide same is exact a b sound other fit fits =
      let numbers = rows_decide same is exact a b in
      let rows = rows_of_bytes a.array.lists b.array.lists sound other fit fits in
      (λ e. rows.0 (numbers.0 e), λ e. numbers.1 (rows.1 e))

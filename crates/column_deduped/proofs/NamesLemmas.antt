-- Laws of the indexes that long views hold, each once: which they are, and at which places they stand.
use Rattle.std.proofs.Common.{◌≡◌, ℕ, zero, suc, ◌+◌, ◌<◌, ◌≤◌, Bool, true, false, not, cond, ◌&&◌, ◌||◌, eqb, List, [], ◌∷◌, ◌++◌, length, slice_index_or, refl, sym, ◌∙◌, ap, subst, arith, if◌then◌else◌, ◌==◌, append_assoc, append-nil, inl, inr, length-append}
use Rattle.std.specs.List.{fold, range_with_len, IsDistinct, AllByRecursion}
use Rattle.std.specs.Cmp.{nat_eq_equiv}
use Rattle.std.proofs.lemmas.Bool.{cases_lt}
use Rattle.std.proofs.lemmas.Bool.Decides.{nat_tests}
use Rattle.std.proofs.lemmas.List.Folds.{list_any-append}
use Rattle.std.proofs.lemmas.Map.Keys.{IsDistinct-push}
use Rattle.std.proofs.lemmas.Map.Steps.{length-le_from_distinct_below}
use Rattle.column_view.specs.Views.{is_long, view_index}
use Rattle.column_deduped.specs.Deduped.{is_among, place_among, named_with, named}

-- ---- numbers among others

pub same_number : (n : ℕ) → (n == n) ≡ true
same_number n = grind (arith, nat_tests)

or_true : (test : Bool) → test || true ≡ true
or_true true = refl
or_true false = refl

or_false : (test : Bool) → test || false ≡ test
or_false true = refl
or_false false = refl

pub among-more : (names more : List ℕ) (n : ℕ) → is_among names n ≡ true → is_among (names ++ more) n ≡ true
among-more names more n among = list_any-append (λ name. n == name) names more ∙ rw among refl

pub among-last : (names : List ℕ) (n : ℕ) → is_among (names ++ n ∷ []) n ≡ true
among-last names n = list_any-append (λ name. n == name) names (n ∷ []) ∙ rw (same_number n) (or_true (is_among names n))

-- a further number is among them, and no other
pub among-other : (names : List ℕ) (name n : ℕ) → (n == name) ≡ false → is_among (names ++ name ∷ []) n ≡ is_among names n
among-other names name n other = list_any-append (λ number. n == number) names (name ∷ []) ∙ rw other (or_false (is_among names n))

-- ---- their places

kept_if : (here : Bool) (old new : ℕ) (among : Bool) → here || among ≡ true → (among ≡ true → new ≡ old) → cond (not here) (1 + new) 0 ≡ cond (not here) (1 + old) 0
kept_if true old new among there same = refl
kept_if false old new among there same = ap (λ (place : ℕ). 1 + place) (same there)

-- a number that is there keeps its place
pub place-more : (names more : List ℕ) (n : ℕ) → is_among names n ≡ true → place_among (names ++ more) n ≡ place_among names n
place-more [] more n among = absurd (cc)
place-more (name ∷ names) more n among =
    kept_if (n == name) (place_among names n) (place_among (names ++ more) n) (is_among names n) among (place-more names more n)

new_if : (here : Bool) (place n : ℕ) (among : Bool) → here || among ≡ false → (among ≡ false → place ≡ n) → cond (not here) (1 + place) 0 ≡ suc n
new_if true place n among apart last = absurd (cc)
new_if false place n among apart last = let at = last apart in omega arith

-- a new one comes last
pub place-last : (names : List ℕ) (n : ℕ) → is_among names n ≡ false → place_among (names ++ n ∷ []) n ≡ length names
place-last [] n apart = rw (same_number n) refl
place-last (name ∷ names) n apart =
    new_if (n == name) (place_among (names ++ n ∷ []) n) (length names) (is_among names n) apart (place-last names n)

within_if : (here : Bool) (place n : ℕ) (among : Bool) → here || among ≡ true → (among ≡ true → place < n) → cond (not here) (1 + place) 0 < suc n
within_if true place n among there below = omega arith
within_if false place n among there below = let within = below there in omega arith

pub place-within : (names : List ℕ) (n : ℕ) → is_among names n ≡ true → place_among names n < length names
place-within [] n among = absurd (cc)
place-within (name ∷ names) n among =
    within_if (n == name) (place_among names n) (length names) (is_among names n) among (place-within names n)

at_if : (here : Bool) (names : List ℕ) (name n place : ℕ) (among : Bool) → (n == name) ≡ here → here || among ≡ true → (among ≡ true → slice_index_or names place 0 ≡ n)
    → slice_index_or (name ∷ names) (cond (not here) (1 + place) 0) 0 ≡ n
at_if true names name n place among is there at = grind (arith, nat_tests)
at_if false names name n place among is there at =
    let on : 1 + place ≡ suc place = omega arith in ap (λ (i : ℕ). slice_index_or (name ∷ names) i 0) on ∙ at there

-- the number stands at its place
pub at-place : (names : List ℕ) (n : ℕ) → is_among names n ≡ true → slice_index_or names (place_among names n) 0 ≡ n
at-place [] n among = absurd (cc)
at-place (name ∷ names) n among =
    at_if (n == name) names name n (place_among names n) (is_among names n) refl among (at-place names n)

-- ---- names of views

-- the index of each long view is among the names
abbrev pub AllNamed : List ℕ → List (List ℕ) → Type 0
AllNamed names views = AllByRecursion (λ view. is_long view ≡ true → is_among names (view_index view) ≡ true) views

-- Indexes that long views hold: all of them, below the number of buffers, and no two of them equal.
pub record AreNames (names : List ℕ) (views buffers : List (List ℕ)) : Type 0 where
  pub all : AllNamed names views
  pub below : (n : ℕ) → is_among names n ≡ true → n < length buffers
  pub distinct : IsDistinct eqb names

-- there are at most as many as buffers
pub names-few : (names : List ℕ) (views buffers : List (List ℕ)) → AreNames names views buffers → length names ≤ length buffers
names-few names views buffers are = length-le_from_distinct_below names (length buffers) are.distinct are.below

pub names-none : (buffers : List (List ℕ)) → AreNames [] [] buffers
names-none buffers = record {
  all = tt;
  below = λ n among. absurd (cc);
  distinct = unfold IsDistinct in tt;
}

all_named-more : (names more : List ℕ) (views : List (List ℕ)) → AllNamed names views → AllNamed (names ++ more) views
all_named-more names more [] all = tt
all_named-more names more (view ∷ views) all =
    (λ long. among-more names more (view_index view) (all.0 long), all_named-more names more views all.1)

all_named-push : (names : List ℕ) (views : List (List ℕ)) (view : List ℕ) → AllNamed names views → (is_long view ≡ true → is_among names (view_index view) ≡ true) → AllNamed names (views ++ view ∷ [])
all_named-push names [] view all one = (one, tt)
all_named-push names (first ∷ views) view all one = (all.0, all_named-push names views view all.1 one)

module _ (names : List ℕ) (views buffers : List (List ℕ)) (view : List ℕ) (are : AreNames names views buffers) where
  pub names-kept : (is_long view ≡ true → is_among names (view_index view) ≡ true) → AreNames names (views ++ view ∷ []) buffers
  names-kept among = record {
    all = all_named-push names views view are.all among;
    below = are.below;
    distinct = are.distinct;
  }

  below_if : (here : Bool) (n : ℕ) → (n == view_index view) ≡ here → view_index view < length buffers → is_among (names ++ view_index view ∷ []) n ≡ true → n < length buffers
  below_if true n is within among = let same : n ≡ view_index view = grind (arith, nat_tests) in omega arith
  below_if false n is within among = are.below n (sym (among-other names (view_index view) n is) ∙ among)

  pub names-new : is_among names (view_index view) ≡ false → view_index view < length buffers → AreNames (names ++ view_index view ∷ []) (views ++ view ∷ []) buffers
  names-new apart within = record {
    all = all_named-push (names ++ view_index view ∷ []) views view (all_named-more names (view_index view ∷ []) views are.all) (λ long. among-last names (view_index view));
    below = λ n among. below_if (n == view_index view) n refl within among;
    distinct = IsDistinct-push nat_eq_equiv names (view_index view) are.distinct apart;
  }

  -- a name that is new finds a buffer that was not named
  pub names-free : is_among names (view_index view) ≡ false → view_index view < length buffers → length names < length buffers
  names-free apart within =
      let most = names-few (names ++ view_index view ∷ []) (views ++ view ∷ []) buffers (names-new apart within) in
      omega (arith, length-append names (view_index view ∷ []))

names_if : (long among : Bool) (names : List ℕ) (views buffers : List (List ℕ)) (view : List ℕ) → is_long view ≡ long → is_among names (view_index view) ≡ among
    → (is_long view ≡ true → view_index view < length buffers) → AreNames names views buffers
    → AreNames (if long && not among then names ++ view_index view ∷ [] else names) (views ++ view ∷ []) buffers
names_if true true names views buffers view is found inside are = names-kept names views buffers view are (λ long. found)
names_if true false names views buffers view is found inside are = names-new names views buffers view are found (inside is)
names_if false among names views buffers view is found inside are = names-kept names views buffers view are (λ long. absurd (cc))

-- the names of one view more
pub names-more : (names : List ℕ) (views buffers : List (List ℕ)) (view : List ℕ) → (is_long view ≡ true → view_index view < length buffers) → AreNames names views buffers
    → AreNames (named_with names view) (views ++ view ∷ []) buffers
names-more names views buffers view inside are = names_if (is_long view) (is_among names (view_index view)) names views buffers view refl refl inside are

-- long views name buffers that are there
abbrev pub AllInside : List (List ℕ) → List (List ℕ) → Type 0
AllInside views buffers = AllByRecursion (λ view. is_long view ≡ true → view_index view < length buffers) views

names_after : (names : List ℕ) (before views buffers : List (List ℕ)) → AllInside views buffers → AreNames names before buffers → AreNames (fold named_with names views) (before ++ views) buffers
names_after names before [] buffers inside are = subst (λ (views : List (List ℕ)). AreNames names views buffers) (sym (append-nil before)) are
names_after names before (view ∷ views) buffers inside are =
    subst (λ (all : List (List ℕ)). AreNames (fold named_with (named_with names view) views) all buffers) (append_assoc before (view ∷ []) views)
    (names_after (named_with names view) (before ++ view ∷ []) views buffers inside.1 (names-more names before buffers view inside.0 are))

pub names-of : (views buffers : List (List ℕ)) → AllInside views buffers → AreNames (named views) views buffers
names-of views buffers inside = names_after [] [] views buffers inside (names-none buffers)

-- ---- names that views have after others

-- each number that is there stays at its place
abbrev pub Keeps : List ℕ → List ℕ → Type 0
Keeps names more = (n : ℕ) → is_among names n ≡ true → (is_among more n ≡ true) × (place_among more n ≡ place_among names n)

keeps_if : (long among : Bool) (names : List ℕ) (name : ℕ) → Keeps names (if long && not among then names ++ name ∷ [] else names)
keeps_if true true names name = λ n is. (is, refl)
keeps_if true false names name = λ n is. (among-more names (name ∷ []) n is, place-more names (name ∷ []) n is)
keeps_if false among names name = λ n is. (is, refl)

pub keeps-fold : (names : List ℕ) (views : List (List ℕ)) → Keeps names (fold named_with names views)
keeps-fold names [] = λ n is. (is, refl)
keeps-fold names (view ∷ views) = λ n is.
    let one = keeps_if (is_long view) (is_among names (view_index view)) names (view_index view) n is in
    let rest = keeps-fold (named_with names view) views n one.0 in
    (rest.0, rest.1 ∙ one.1)

-- ---- the numbers below another

pub numbers-last : (from n : ℕ) → range_with_len from (suc n) ≡ range_with_len from n ++ (from + n) ∷ []
numbers-last from zero = let same : from ≡ from + 0 = omega arith in ap (λ (i : ℕ). i ∷ []) same
numbers-last from (suc n) =
    let same : from + 1 + n ≡ from + suc n = omega arith in
    ap (λ (rest : List ℕ). from ∷ rest) (numbers-last (from + 1) n ∙ ap (λ (i : ℕ). range_with_len (from + 1) n ++ i ∷ []) same)

pub among-numbers : (from n i : ℕ) → from ≤ i → i < from + n → is_among (range_with_len from n) i ≡ true
among-numbers from zero i low high = absurd (omega arith)
among-numbers from (suc n) i low high = elim (cases_lt from i) [
  | inl later ↦ let apart : (i == from) ≡ false = grind (arith, nat_tests) in rw apart (among-numbers (from + 1) n i (omega arith) (omega arith))
  | inr first ↦ let here : (i == from) ≡ true = grind (arith, nat_tests) in rw here refl
]

pub past-numbers : (from n i : ℕ) → from + n ≤ i → is_among (range_with_len from n) i ≡ false
past-numbers from zero i past = refl
past-numbers from (suc n) i past = let apart : (i == from) ≡ false = grind (arith, nat_tests) in rw apart (past-numbers (from + 1) n i (omega arith))

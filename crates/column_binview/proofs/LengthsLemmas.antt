-- Laws of bytes that are cut into slots one after another.
use Rattle.std.proofs.Common.{◌≡◌, ℕ, zero, suc, ◌+◌, ◌-◌, ◌<◌, ◌≤◌, List, [], ◌∷◌, ◌++◌, length, map, take, drop, sum, get_or, Option, Some, None, refl, sym, ◌∙◌, ap, subst, arith}
use Rattle.std.specs.Prelude.{slice_get, Ok, Err}
use Rattle.std.proofs.lemmas.List.{drop_more, length-drop, take_all, map-append}
use Rattle.std.proofs.lemmas.List.Sums.{sum_by-cons}
use Rattle.column_base.specs.declared.errors.PolarsError.{PolarsError}
use Rattle.column_base.specs.Answers.{Answers}
use Rattle.column_base.specs.Pushes.{grown, growth_fault, IsRefusal}
use Rattle.column_base.proofs.PushesLemmas.{Stands, stands_more, answers_refusal}
use Rattle.column_view.specs.Cuts.{cut_by}
use Rattle.column_binview.specs.Builders.{ViewBuilder, row_growth}
use Rattle.column_binview.specs.Lengths.{ExtendsByList}

pub length-cut_by : (bytes : List ℕ) (lengths : List ℕ) → length (cut_by bytes lengths) ≡ length lengths
length-cut_by bytes [] = refl
length-cut_by bytes (n ∷ lengths) = ap suc (length-cut_by (drop n bytes) lengths)

-- the element at a place, where a list goes on with it
record GoesOn {X : Type 0} (xs : List X) (i : ℕ) (y : X) (ys : List X) : Type 0 where
  pub front : take (i + 1) xs ≡ take i xs ++ y ∷ []
  pub rest : drop (i + 1) xs ≡ ys
  pub at : slice_get xs i ≡ Some y

goes_on : {X : Type 0} (xs : List X) (i : ℕ) (y : X) (ys : List X) → drop i xs ≡ y ∷ ys → GoesOn xs i y ys
goes_on [] zero y ys is = absurd (cc)
goes_on [] (suc i) y ys is = absurd (cc)
goes_on {X} (x ∷ xs) zero y ys is =
    let head : x ≡ y = cc in
    let tail : xs ≡ ys = cc in
    record { front = ap (λ (z : X). z ∷ []) head; rest = tail; at = ap Some head }
goes_on {X} (x ∷ xs) (suc i) y ys is =
    let more = goes_on xs i y ys is in
    let e : suc i + 1 ≡ suc (i + 1) = omega arith in
    record {
      front = rw e (ap (λ (zs : List X). x ∷ zs) more.front);
      rest = rw e more.rest;
      at = more.at;
    }

-- one length more
record IsCut (buffer lengths rest after item : List ℕ) (i : ℕ) : Type 0 where
  pub goes : GoesOn (cut_by buffer lengths) i item (cut_by after (drop (i + 1) lengths))
  pub within : sum (drop (i + 1) lengths) ≤ length after

next_length : (lengths : List ℕ) (i n d : ℕ) → i < length lengths → n ≡ get_or lengths i d → drop i lengths ≡ n ∷ drop (i + 1) lengths
next_length lengths i n d within is = drop_more lengths i d within ∙ ap (λ (m : ℕ). m ∷ drop (i + 1) lengths) (sym is)

sum_first : (n : ℕ) (ns : List ℕ) → sum (n ∷ ns) ≡ n + sum ns
sum_first n ns = sum_by-cons (λ k. k) n ns

is_cut : (buffer lengths rest after item : List ℕ) (i n d : ℕ) → i < length lengths → n ≡ get_or lengths i d → drop i (cut_by buffer lengths) ≡ cut_by rest (drop i lengths) → sum (drop i lengths) ≤ length rest → item ≡ take n rest → after ≡ drop n rest
    → IsCut buffer lengths rest after item i
is_cut buffer lengths rest after item i n d within is left most item_is after_is =
    let split = next_length lengths i n d within is in
    let all : sum (drop i lengths) ≡ n + sum (drop (i + 1) lengths) = ap sum split ∙ sum_first n (drop (i + 1) lengths) in
    let size : length after ≡ length rest - n = ap length after_is ∙ length-drop n rest in
    record {
      goes = goes_on (cut_by buffer lengths) i item (cut_by after (drop (i + 1) lengths)) (left ∙ ap (cut_by rest) split ∙ rw (item_is, after_is) refl);
      within = omega arith;
    }

-- what stands before the next item
pub record StandsAt (old new : ViewBuilder) (buffer lengths rest : List ℕ) (i : ℕ) : Type 0 where
  pub stands : Stands row_growth old new (map Some (take i (cut_by buffer lengths)))
  pub left : drop i (cut_by buffer lengths) ≡ cut_by rest (drop i lengths)
  pub within : sum (drop i lengths) ≤ length rest

pub cut_first : (old : ViewBuilder) (buffer lengths : List ℕ) → sum lengths ≤ length buffer → StandsAt old old buffer lengths buffer 0
cut_first old buffer lengths within = record { stands = record { fine = refl; is = refl }; left = refl; within = within }

pub cut_more : (old new next : ViewBuilder) (buffer lengths rest after item : List ℕ) (i n d : ℕ) → StandsAt old new buffer lengths rest i → i < length lengths → n ≡ get_or lengths i d → item ≡ take n rest → after ≡ drop n rest
    → row_growth.fault new (Some item) ≡ None → next ≡ row_growth.pushed new (Some item) → StandsAt old next buffer lengths after (i + 1)
cut_more old new next buffer lengths rest after item i n d at within is item_is after_is none next_is =
    let cut = is_cut buffer lengths rest after item i n d within is at.left at.within item_is after_is in
    record {
      stands = subst (Stands row_growth old next) (sym (ap (map Some) cut.goes.front ∙ map-append Some (take i (cut_by buffer lengths)) (item ∷ []))) (stands_more row_growth old new next (map Some (take i (cut_by buffer lengths))) (Some item) at.stands none next_is);
      left = cut.goes.rest;
      within = cut.within;
    }

map_take : (i : ℕ) (xs : List (List ℕ)) → map Some (take i xs) ≡ take i (map Some xs)
map_take zero xs = refl
map_take (suc i) [] = refl
map_take (suc i) (x ∷ xs) = ap (λ (rest : List (Option (List ℕ))). Some x ∷ rest) (map_take i xs)

map_get : (xs : List (List ℕ)) (i : ℕ) (x : List ℕ) → slice_get xs i ≡ Some x → slice_get (map Some xs) i ≡ Some (Some x)
map_get [] i x is = absurd (cc)
map_get (y ∷ xs) zero x is = ap Some is
map_get (y ∷ xs) (suc i) x is = map_get xs i x is

pub cut_refused : {Y : Type 0} (P : Y → Type 0) (old new next : ViewBuilder) (buffer lengths rest after item : List ℕ) (i n d : ℕ) (error : PolarsError) → StandsAt old new buffer lengths rest i → i < length lengths → n ≡ get_or lengths i d → item ≡ take n rest → after ≡ drop n rest
    → next ≡ new → Answers {X = Y} (Err error) (row_growth.fault new (Some item)) P → ExtendsByList row_growth (map Some (cut_by buffer lengths)) old next (Err error)
cut_refused P old new next buffer lengths rest after item i n d error at within is item_is after_is same answer =
    let cut = is_cut buffer lengths rest after item i n d within is at.left at.within item_is after_is in
    let first = map_take i (cut_by buffer lengths) in (
      i,
      Some item,
      map_get (cut_by buffer lengths) i item cut.goes.at,
      subst (λ (b : ViewBuilder). IsRefusal error (row_growth.fault b (Some item))) (sym same) (answers_refusal (row_growth.fault new (Some item)) P error answer),
      subst (λ (items : List (Option (List ℕ))). growth_fault row_growth old items ≡ None) first at.stands.fine,
      same ∙ at.stands.is ∙ ap (grown row_growth old) first,
    )

pub cut_all : (old new : ViewBuilder) (buffer lengths rest : List ℕ) (i : ℕ) → StandsAt old new buffer lengths rest i → length lengths ≤ i → ExtendsByList row_growth (map Some (cut_by buffer lengths)) old new (Ok tt)
cut_all old new buffer lengths rest i at done =
    let whole : take i (cut_by buffer lengths) ≡ cut_by buffer lengths = take_all i (cut_by buffer lengths) (let count = length-cut_by buffer lengths in omega arith) in
    (subst (λ (items : List (List ℕ)). growth_fault row_growth old (map Some items) ≡ None) whole at.stands.fine, at.stands.is ∙ ap (λ (items : List (List ℕ)). grown row_growth old (map Some items)) whole)

-- Laws of items that are pushed one after another.
use Rattle.std.proofs.Common.{◌≡◌, List, [], ◌∷◌, ◌++◌, map, refl, sym, ◌∙◌, ap, subst, inl, inr}
use Rattle.std.specs.Prelude.{Option, Some, None, Result, Ok, Err}
use Rattle.std.specs.Slice.Iter.{iter_rest}
use Rattle.std.proofs.Common.{Iter, Bor}
use Rattle.std.proofs.iter.Yields.{fronts}
use Rattle.std.proofs.lemmas.Iterator.{YieldsList-from_slice}
use Rattle.std.specs.Iterator.{Yields, YieldsThen, YieldsFirstBy, AlwaysYields}
use Rattle.std.proofs.lemmas.List.{append-nil, map-append}
use Rattle.column_base.specs.declared.errors.Cause.{Cause}
use Rattle.column_base.specs.declared.errors.PolarsError.{PolarsError}
use Rattle.column_base.specs.declared.errors.PolarsError.TheVariants.{ComputeError, OutOfBounds, NoMemory}
use Rattle.column_base.specs.Answers.{◌or_else◌, Answers}
use Rattle.column_base.proofs.AnswersLemmas.{first_none}
use Rattle.column_base.specs.Pushes.{Growth, grown, growth_fault, IsRefusal, GrowsBy, ExtendsBy, MadeBy}

module _ {L X : Type 0} (growth : Growth L X) where
  pub grown-append : (list : L) (xs ys : List X) → grown growth list (xs ++ ys) ≡ grown growth (grown growth list xs) ys
  grown-append list [] ys = refl
  grown-append list (x ∷ xs) ys = grown-append (growth.pushed list x) xs ys

  pub fault-append : (list : L) (xs ys : List X) → growth_fault growth list xs ≡ None → growth_fault growth list (xs ++ ys) ≡ growth_fault growth (grown growth list xs) ys
  fault-append list [] ys none = refl
  fault-append list (x ∷ xs) ys none =
      let parts = first_none (growth.fault list x) (growth_fault growth (growth.pushed list x) xs) none in
      ap (λ first. first or_else growth_fault growth (growth.pushed list x) (xs ++ ys)) parts.0
      ∙ fault-append (growth.pushed list x) xs ys parts.1

  pub grown-one : (list : L) (xs : List X) (x : X) → grown growth list (xs ++ x ∷ []) ≡ growth.pushed (grown growth list xs) x
  grown-one list xs x = grown-append list xs (x ∷ [])

  pub fine-one : (list : L) (xs : List X) (x : X) → growth_fault growth list xs ≡ None → growth.fault (grown growth list xs) x ≡ None → growth_fault growth list (xs ++ x ∷ []) ≡ None
  fine-one list xs x none one = fault-append list xs (x ∷ []) none ∙ ap (λ first. first or_else None) one

pub answers_refusal : {Y : Type 0} (fault : Option Cause) (P : Y → Type 0) (error : PolarsError) → Answers {X = Y} (Err error) fault P → IsRefusal error fault
answers_refusal fault P (ComputeError cause) given = given
answers_refusal fault P (OutOfBounds cause) given = given
answers_refusal fault P NoMemory given = tt

pub answers_weaker : {Y : Type 0} (result : Result Y PolarsError) (fault other : Option Cause) (P Q : Y → Type 0) → fault ≡ other → ((y : Y) → P y → Q y) → Answers result fault P → Answers result other Q
answers_weaker (Ok y) fault other P Q same step given = (sym same ∙ given.0, step y given.1)
answers_weaker (Err (ComputeError cause)) fault other P Q same step given = (sym same ∙ given.0, given.1)
answers_weaker (Err (OutOfBounds cause)) fault other P Q same step given = (sym same ∙ given.0, given.1)
answers_weaker (Err NoMemory) fault other P Q same step given = tt

-- ---- one turn of a loop that pushes

-- what stands after some items, none of which was refused
pub record Stands {L X : Type 0} (growth : Growth L X) (old new : L) (items : List X) : Type 0 where
  pub fine : growth_fault growth old items ≡ None
  pub is : new ≡ grown growth old items

module _ {L X : Type 0} (growth : Growth L X) where
  pub stands_first : (old : L) → Stands growth old old []
  stands_first old = record { fine = refl; is = refl }

  pub stands_more : (old new next : L) (items : List X) (x : X) → Stands growth old new items → growth.fault new x ≡ None → next ≡ growth.pushed new x → Stands growth old next (items ++ x ∷ [])
  stands_more old new next items x at none is = record {
    fine = fine-one growth old items x at.fine (subst (λ list. growth.fault list x ≡ None) at.is none);
    is = is ∙ ap (λ list. growth.pushed list x) at.is ∙ sym (grown-one growth old items x);
  }

  -- the first fault, at an item after which others come
  pub stands_refused : (old new : L) (items others : List X) (x : X) (cause : Cause) → Stands growth old new items → growth.fault new x ≡ Some cause → growth_fault growth old (items ++ x ∷ others) ≡ Some cause
  stands_refused old new items others x cause at fault =
      fault-append growth old items (x ∷ others) at.fine
      ∙ ap (λ list. growth.fault list x or_else growth_fault growth (growth.pushed list x) others) (sym at.is)
      ∙ ap (λ first. first or_else growth_fault growth (growth.pushed new x) others) fault

-- the same, where items are shown as something else
module _ {L X T : Type 0} (growth : Growth L X) (shown : T → X) where
  pub shown_more : (old new next : L) (taken : List T) (item : T) → Stands growth old new (map shown taken) → growth.fault new (shown item) ≡ None → next ≡ growth.pushed new (shown item) → Stands growth old next (map shown (taken ++ item ∷ []))
  shown_more old new next taken item at none is =
      subst (Stands growth old next) (sym (map-append shown taken (item ∷ []))) (stands_more growth old new next (map shown taken) (shown item) at none is)

  -- the first that is refused
  pub shown_up_to : {Y : Type 0} (given : List T → Type 0) (P : Y → Type 0) (old new next : L) (taken : List T) (x : T) (error : PolarsError) → Stands growth old new (map shown taken) → given taken → next ≡ new → Answers {X = Y} (Err error) (growth.fault new (shown x)) P
      → IsRefusal error (growth.fault next (shown x)) × GrowsBy growth shown given old next
  shown_up_to given P old new next taken x error at given_is same answer = (
    subst (λ list. IsRefusal error (growth.fault list (shown x))) (sym same) (answers_refusal (growth.fault new (shown x)) P error answer),
    (taken, given_is, at.fine, same ∙ at.is),
  )

-- calls gave good items, and then one more
pub given_good : {S T E : Type 0} (steps : S → Option (Result T E) → S → Type 0) (s t u : S) (yielded : List (Result T E)) (taken : List T) (item : Result T E) (x : T) → Yields steps s yielded t → yielded ≡ map Ok taken → steps t (Some item) u → item ≡ Ok x
    → (v : S) × YieldsThen steps s (map Ok taken) (Some (Ok x)) v
given_good {S} {T} {E} steps s t u yielded taken item x given is step good =
    (u, (t, subst (λ (items : List (Result T E)). Yields steps s items t) is given, subst (λ (i : Result T E). steps t (Some i) u) good step))

-- ---- an iterator that gives a list

module _ {S T L X : Type 0} (growth : Growth L X) (shown : T → X) (steps : S → Option T → S → Type 0) where
  yielded : (s t : S) (xs : List T) (ys : List X) → AlwaysYields steps shown s ys → Yields steps s xs t → (zs : List X) × (ys ≡ map shown xs ++ zs) × AlwaysYields steps shown t zs
  yielded s t [] ys all same = (ys, refl, subst (λ u. AlwaysYields steps shown u ys) same all)
  yielded s t (x ∷ xs) [] all given = absurd (all x given.0 given.1)
  yielded s t (x ∷ xs) (y ∷ ys) all given =
      let here = all.1 x given.0 given.1 in
      let rest = yielded given.0 t xs ys here.1 given.2 in
      (rest.0, ap (λ z. z ∷ ys) (sym here.0) ∙ ap (λ zs. shown x ∷ zs) rest.1, rest.2)

  ends : (t u : S) (zs : List X) → AlwaysYields steps shown t zs → steps t None u → zs ≡ []
  ends t u [] all none = refl
  ends t u (z ∷ zs) all none = absurd (all.0 u none)

  goes : (t u : S) (zs : List X) (x : T) → AlwaysYields steps shown t zs → steps t (Some x) u → (rest : List X) × (zs ≡ shown x ∷ rest)
  goes t u [] x all given = absurd (all x u given)
  goes t u (z ∷ zs) x all given = (zs, ap (λ y. y ∷ zs) (sym (all.1 x u given).0))

  refused : (s : S) (ys : List X) (old new : L) (x : T) (cause : Cause) → AlwaysYields steps shown s ys → growth.fault new (shown x) ≡ Some cause
      → GrowsBy growth shown (λ taken. (t : S) × YieldsThen steps s taken (Some x) t) old new
      → growth_fault growth old ys ≡ Some cause
  refused s ys old new x cause all fault given =
      let before = yielded s given.1.1.0 given.0 ys all given.1.1.1 in
      let next = goes given.1.1.0 given.1.0 before.0 x before.2 given.1.1.2 in
      ap (growth_fault growth old) (before.1 ∙ ap (λ zs. map shown given.0 ++ zs) next.1)
      ∙ stands_refused growth old new (map shown given.0) next.0 (shown x) cause (record { fine = given.2; is = given.3 }) fault

  -- the items of a list, pushed one after another
  pub by_items : (s : S) (ys : List X) (old new : L) (result : Result (Unit {0}) PolarsError) → AlwaysYields steps shown s ys → ExtendsBy growth shown steps s old new result
      → Answers result (growth_fault growth old ys) (λ _. new ≡ grown growth old ys)
  by_items s ys old new (Ok done) all given =
      let before = yielded s given.1.1.0 given.0 ys all given.1.1.1 in
      let is : ys ≡ map shown given.0 = before.1 ∙ ap (λ zs. map shown given.0 ++ zs) (ends given.1.1.0 given.1.0 before.0 before.2 given.1.1.2) ∙ append-nil (map shown given.0) in
      (ap (growth_fault growth old) is ∙ given.2, given.3 ∙ ap (grown growth old) (sym is))
  by_items s ys old new (Err (ComputeError cause)) all given = (refused s ys old new given.0 cause all given.1.0 given.2, given.1.1)
  by_items s ys old new (Err (OutOfBounds cause)) all given = (refused s ys old new given.0 cause all given.1.0 given.2, given.1.1)
  by_items s ys old new (Err NoMemory) all given = tt

  -- the same, of a new list
  pub made_by_items : {M : Type 0} (s : S) (ys : List X) (empty : L) (P : M → L → Type 0) (result : Result M PolarsError) → AlwaysYields steps shown s ys → MadeBy growth shown steps s empty P result
      → Answers result (growth_fault growth empty ys) (λ made. P made (grown growth empty ys))
  made_by_items s ys empty P (Ok made) all given =
      let is = by_items s ys empty given.0 (Ok tt) all given.1 in
      (is.0, subst (λ list. P made list) is.1 given.2)
  made_by_items s ys empty P (Err error) all (inl none) = rw none tt
  made_by_items s ys empty P (Err (ComputeError cause)) all (inr given) = by_items s ys empty given.0 (Err (ComputeError cause)) all given.1
  made_by_items s ys empty P (Err (OutOfBounds cause)) all (inr given) = by_items s ys empty given.0 (Err (OutOfBounds cause)) all given.1
  made_by_items s ys empty P (Err NoMemory) all (inr given) = tt

-- an iterator that tells the list of its items
pub always_listed : {S T X : Type 0} (shown : T → X) (steps : S → Option T → S → Type 0) (rest : S → List X) → ((s : S) (r : Option T) (t : S) → steps s r t → YieldsFirstBy shown rest s r t) → (ys : List X) (s : S) → rest s ≡ ys → AlwaysYields steps shown s ys
always_listed shown steps rest gives [] s is = λ x t step. absurd (let more : [] ≡ shown x ∷ rest t = sym is ∙ gives s (Some x) t step in cc)
always_listed shown steps rest gives (y ∷ ys) s is = (
  (λ t step. let none : y ∷ ys ≡ [] = sym is ∙ (gives s None t step).0 in absurd (cc)),
  λ x t step.
      let more : shown x ∷ rest t ≡ y ∷ ys = sym (gives s (Some x) t step) ∙ is in
      (cc, always_listed shown steps rest gives ys t (cc)),
)

pub always_map : {S T X Y : Type 0} (view : T → X) (f : X → Y) (steps : S → Option T → S → Type 0) (ys : List X) (s : S) → AlwaysYields steps view s ys → AlwaysYields steps (λ t. f (view t)) s (map f ys)
always_map view f steps [] s all = all
always_map view f steps (y ∷ ys) s all = (all.0, λ x t step. (ap f (all.1 x t step).0, always_map view f steps ys t (all.1 x t step).1))

module _ {S T L X : Type 0} (growth : Growth L X) (shown : T → X) (rest : S → List X) where
  pub by_list : (s : S) (ys : List X) (old new : L) (result : Result (Unit {0}) PolarsError) → rest s ≡ ys → ExtendsBy growth shown (YieldsFirstBy shown rest) s old new result
      → Answers result (growth_fault growth old ys) (λ _. new ≡ grown growth old ys)
  by_list s ys old new result is given = by_items growth shown (YieldsFirstBy shown rest) s ys old new result (always_listed shown (YieldsFirstBy shown rest) rest (λ s r t step. step) ys s is) given

  pub made_by_list : {M : Type 0} (s : S) (ys : List X) (empty : L) (P : M → L → Type 0) (result : Result M PolarsError) → rest s ≡ ys → MadeBy growth shown (YieldsFirstBy shown rest) s empty P result
      → Answers result (growth_fault growth empty ys) (λ made. P made (grown growth empty ys))
  made_by_list s ys empty P result is given = made_by_items growth shown (YieldsFirstBy shown rest) s ys empty P result (always_listed shown (YieldsFirstBy shown rest) rest (λ s r t step. step) ys s is) given

-- the same, where what is pushed is made of what the iterator tells
module _ {S T X Y L : Type 0} (growth : Growth L Y) (view : T → X) (made_of : X → Y) (rest : S → List X) where
  pub by_list_map : (s : S) (ys : List X) (old new : L) (result : Result (Unit {0}) PolarsError) → rest s ≡ ys → ExtendsBy growth (λ t. made_of (view t)) (YieldsFirstBy view rest) s old new result
      → Answers result (growth_fault growth old (map made_of ys)) (λ _. new ≡ grown growth old (map made_of ys))
  by_list_map s ys old new result is given =
      by_items growth (λ t. made_of (view t)) (YieldsFirstBy view rest) s (map made_of ys) old new result
      (always_map view made_of (YieldsFirstBy view rest) ys s (always_listed view (YieldsFirstBy view rest) rest (λ s r t step. step) ys s is)) given

  pub made_by_list_map : {M : Type 0} (s : S) (ys : List X) (empty : L) (P : M → L → Type 0) (result : Result M PolarsError) → rest s ≡ ys → MadeBy growth (λ t. made_of (view t)) (YieldsFirstBy view rest) s empty P result
      → Answers result (growth_fault growth empty (map made_of ys)) (λ made. P made (grown growth empty (map made_of ys)))
  made_by_list_map s ys empty P result is given =
      made_by_items growth (λ t. made_of (view t)) (YieldsFirstBy view rest) s (map made_of ys) empty P result
      (always_map view made_of (YieldsFirstBy view rest) ys s (always_listed view (YieldsFirstBy view rest) rest (λ s r t step. step) ys s is)) given

-- the same, of a slice
module _ {X Y L : Type 0} (growth : Growth L Y) (made_of : X → Y) where
  pub by_slice : (s : Iter X) (xs : List X) (old new : L) (result : Result (Unit {0}) PolarsError) → iter_rest s ≡ xs → ExtendsBy growth (λ (x : Bor X). made_of x.now) fronts s old new result
      → Answers result (growth_fault growth old (map made_of xs)) (λ _. new ≡ grown growth old (map made_of xs))
  by_slice s xs old new result is given =
      by_items growth (λ (x : Bor X). made_of x.now) fronts s (map made_of xs) old new result
      (always_map (λ (x : Bor X). x.now) made_of fronts xs s (YieldsList-from_slice {s = s} xs is).runs) given

  pub made_by_slice : {M : Type 0} (s : Iter X) (xs : List X) (empty : L) (P : M → L → Type 0) (result : Result M PolarsError) → iter_rest s ≡ xs → MadeBy growth (λ (x : Bor X). made_of x.now) fronts s empty P result
      → Answers result (growth_fault growth empty (map made_of xs)) (λ made. P made (grown growth empty (map made_of xs)))
  made_by_slice s xs empty P result is given =
      made_by_items growth (λ (x : Bor X). made_of x.now) fronts s (map made_of xs) empty P result
      (always_map (λ (x : Bor X). x.now) made_of fronts xs s (YieldsList-from_slice {s = s} xs is).runs) given

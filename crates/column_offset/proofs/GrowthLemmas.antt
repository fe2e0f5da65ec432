-- Laws of growing offsets.
use Rattle.std.proofs.Common.{◌≡◌, ℕ, zero, suc, ◌+◌, ◌-◌, ◌<◌, ◌≤◌, ℤ, pos, List, [], ◌∷◌, ◌++◌, length, take, map, refl, sym, ◌∙◌, ap, subst, inl, inr, arith, length-append, append_assoc}
use Rattle.std.specs.Prelude.{◌≤ℤ◌, ◌+ℤ◌, sum, replicate, true, false, Option, Some, None, Result, Ok, Err, OnErr, int_lt}
use Rattle.std.proofs.lemmas.Int.{ints}
use Rattle.std.proofs.lemmas.Bool.{cases_lt}
use Rattle.std.proofs.lemmas.List.{length-map}
use Rattle.std.proofs.lemmas.List.Sums.{sum_by-cons, sum_by-append}
use Rattle.column_offset.specs.Offsets.{offset_at, last_of, AreSoundOffsets, AreOffsetsWithin}
use Rattle.std.proofs.lemmas.List.{append-nil, map-append, take-map, take_all, take-take}
use Rattle.std.proofs.Math.Seq.{take-append_seam}
use Rattle.std.specs.Iterator.{Yields, Drains, YieldsFirst}
use Rattle.column_base.specs.declared.errors.PolarsError.{PolarsError}
use Rattle.column_base.specs.declared.errors.PolarsError.TheVariants.{ComputeError, OutOfBounds, NoMemory}
use Rattle.column_base.specs.declared.errors.Cause.{Cause}
use Rattle.column_base.specs.declared.errors.Cause.TheVariants.{Overflow}
use Rattle.column_base.specs.Answers.{Answers}
use Rattle.column_base.proofs.AnswersLemmas.{cause_some, answers_err}
use Rattle.column_offset.specs.Growth.{pushed, extended, limit_fault, ExtendsByLengths}

map-snoc : {X : Type 0} (f : X → ℤ) (xs : List X) (x : X) → map f (xs ++ x ∷ []) ≡ map f xs ++ f x ∷ []
map-snoc f [] x = refl
map-snoc f (y ∷ ys) x = ap (λ zs. f y ∷ zs) (map-snoc f ys x)

offset_at-front : (offsets : List ℤ) (z : ℤ) (i : ℕ) → i < length offsets → offset_at (offsets ++ z ∷ []) i ≡ offset_at offsets i
offset_at-front [] z i within = absurd (omega arith)
offset_at-front (n ∷ ns) z zero within = refl
offset_at-front (n ∷ ns) z (suc i) within = offset_at-front ns z i (omega arith)

offset_at-end : (offsets : List ℤ) (z : ℤ) → offset_at (offsets ++ z ∷ []) (length offsets) ≡ z
offset_at-end [] z = refl
offset_at-end (n ∷ ns) z = offset_at-end ns z

pub last_of-push : (offsets : List ℤ) (z : ℤ) → last_of (offsets ++ z ∷ []) ≡ z
last_of-push offsets z =
    let count = length-append offsets (z ∷ []) in
    let e : length (offsets ++ z ∷ []) - 1 ≡ length offsets = omega arith in
    rw e (offset_at-end offsets z)

step_push : (offsets : List ℤ) (z : ℤ) → AreSoundOffsets offsets → last_of offsets ≤ℤ z → (i : ℕ) → i < length offsets → offset_at (offsets ++ z ∷ []) i ≤ℤ offset_at (offsets ++ z ∷ []) (i + 1)
step_push offsets z sound rises i within = elim (cases_lt (i + 1) (length offsets)) [
  | inl before ↦ rw (offset_at-front offsets z i within, offset_at-front offsets z (i + 1) before) (sound.never_falls i before)
  | inr after ↦
      let at_end : i + 1 ≡ length offsets = omega arith in
      let at_last : length offsets - 1 ≡ i = omega arith in
      rw (offset_at-front offsets z i within, at_end, offset_at-end offsets z, ← at_last) rises
]

sound_push : (offsets : List ℤ) (z : ℤ) → AreSoundOffsets offsets → last_of offsets ≤ℤ z → AreSoundOffsets (offsets ++ z ∷ [])
sound_push offsets z sound rises =
    let count = length-append offsets (z ∷ []) in
    let some = sound.not_empty in
    record {
      not_empty = omega arith;
      starts = rw (offset_at-front offsets z 0 some) sound.starts;
      never_falls = λ i below. step_push offsets z sound rises i (omega arith);
    }

rises_by : (z : ℤ) (n : ℕ) → z ≤ℤ (z +ℤ pos n)
rises_by z n = omega (arith, ints)

sound_pushed : {X : Type 0} (f : X → ℤ) (xs : List X) (x : X) (n : ℕ) → AreSoundOffsets (map f xs) → f x ≡ last_of (map f xs) +ℤ pos n → AreSoundOffsets (map f (xs ++ x ∷ []))
sound_pushed f xs x n sound e =
    rw (map-snoc f xs x, e) (sound_push (map f xs) (last_of (map f xs) +ℤ pos n) sound (rises_by _ n))

pub within_pushed : {X : Type 0} (greatest : ℕ) (f : X → ℤ) (xs : List X) (x : X) (n next : ℕ) → AreOffsetsWithin greatest (map f xs) → f x ≡ last_of (map f xs) +ℤ pos n → f x ≡ pos next → next ≤ greatest → AreOffsetsWithin greatest (map f (xs ++ x ∷ []))
within_pushed greatest f xs x n next within e is limit = record {
  sound = sound_pushed f xs x n within.sound e;
  within_type = rw (map-snoc f xs x, last_of-push (map f xs) (f x), is) (omega (arith, ints));
}

pub map_pushed : {X : Type 0} (f : X → ℤ) (xs : List X) (x : X) (n : ℕ) → f x ≡ last_of (map f xs) +ℤ pos n → map f (xs ++ x ∷ []) ≡ pushed (map f xs) n
map_pushed f xs x n e = map-snoc f xs x ∙ ap (λ z. map f xs ++ z ∷ []) e

-- ---- many slots

add-sum : (z : ℤ) (n m k : ℕ) → k ≡ n + m → (z +ℤ pos n) +ℤ pos m ≡ z +ℤ pos k
add-sum z n m k e = omega (arith, ints)

pub last_of-extended : (offsets : List ℤ) (lengths : List ℕ) → last_of (extended offsets lengths) ≡ last_of offsets +ℤ pos (sum lengths)
last_of-extended offsets [] = omega (arith, ints)
last_of-extended offsets (n ∷ lengths) =
    last_of-extended (pushed offsets n) lengths
    ∙ ap (λ z. z +ℤ pos (sum lengths)) (last_of-push offsets (last_of offsets +ℤ pos n))
    ∙ add-sum (last_of offsets) n (sum lengths) (sum (n ∷ lengths)) (sum_by-cons (λ k. k) n lengths)

pub extended-snoc : (offsets : List ℤ) (lengths : List ℕ) (n : ℕ) → extended offsets (lengths ++ n ∷ []) ≡ pushed (extended offsets lengths) n
extended-snoc offsets [] n = refl
extended-snoc offsets (m ∷ lengths) n = extended-snoc (pushed offsets m) lengths n

pub sound_extended : (offsets : List ℤ) (lengths : List ℕ) → AreSoundOffsets offsets → AreSoundOffsets (extended offsets lengths)
sound_extended offsets [] sound = sound
sound_extended offsets (n ∷ lengths) sound =
    sound_extended (pushed offsets n) lengths (sound_push offsets (last_of offsets +ℤ pos n) sound (rises_by _ n))

pub length-extended : (offsets : List ℤ) (lengths : List ℕ) → length (extended offsets lengths) ≡ length offsets + length lengths
length-extended offsets [] = omega arith
length-extended offsets (n ∷ lengths) =
    let count = length-append offsets ((last_of offsets +ℤ pos n) ∷ []) in
    let more = length-extended (pushed offsets n) lengths in
    omega arith

front-extended : (offsets : List ℤ) (lengths : List ℕ) → take (length offsets) (extended offsets lengths) ≡ offsets
front-extended offsets [] = take_all (length offsets) offsets (omega arith)
front-extended offsets (n ∷ lengths) =
    let next = last_of offsets +ℤ pos n in
    let count = length-append offsets (next ∷ []) in
    sym (take-take (length offsets) (length (pushed offsets n)) (extended (pushed offsets n) lengths) (omega arith))
    ∙ ap (take (length offsets)) (front-extended (pushed offsets n) lengths)
    ∙ take-append_seam offsets (next ∷ [])

-- the offsets of the first slots that were added
pub take-extended : (n : ℕ) (offsets : List ℤ) (lengths : List ℕ) → take (length offsets + n) (extended offsets lengths) ≡ extended offsets (take n lengths)
take-extended zero offsets lengths = let e : length offsets + 0 ≡ length offsets = omega arith in rw e (front-extended offsets lengths)
take-extended (suc n) offsets [] = take_all (length offsets + suc n) offsets (omega arith)
take-extended (suc n) offsets (m ∷ lengths) =
    let count : length (pushed offsets m) ≡ length offsets + 1 = length-append offsets ((last_of offsets +ℤ pos m) ∷ []) in
    let e : length offsets + suc n ≡ length (pushed offsets m) + n = omega arith in
    rw e (take-extended n (pushed offsets m) lengths)

-- ---- a slot more

pub next_is : (z : ℤ) (last length : ℕ) (x : ℤ) → pos last ≡ z → x ≡ pos (last + length) → x ≡ z +ℤ pos length
next_is z last length x e f = omega (arith, ints)

pub sum_more : (z : ℤ) (m last x : ℕ) (taken : List ℕ) → m ≡ last + x → pos last ≡ z +ℤ pos (sum taken) → pos m ≡ z +ℤ pos (sum (taken ++ x ∷ []))
sum_more z m last x taken e f =
    let one : sum (x ∷ []) ≡ x = omega arith in
    let more : sum (taken ++ x ∷ []) ≡ sum taken + x = sum_by-append (λ k. k) taken (x ∷ []) ∙ ap (λ k. sum taken + k) one in
    rw more (omega (arith, ints))

yields_more : {S : Type 0} (steps : S → Option ℕ → S → Type 0) (s t u : S) (xs : List ℕ) (x : ℕ) → Yields steps s xs t → steps t (Some x) u → Yields steps s (xs ++ x ∷ []) u
yields_more steps s t u [] x same step = (u, subst (λ v. steps v (Some x) u) (sym same) step, refl)
yields_more steps s t u (y ∷ ys) x given step = (given.0, given.1, yields_more steps given.0 t u ys x given.2 step)

pub refused_at : {S : Type 0} (steps : S → Option ℕ → S → Type 0) (greatest : ℕ) (s t u : S) (old new : List ℤ) (taken : List ℕ) (x last : ℕ) (P : ℕ → Type 0) (result : Result (Unit {0}) PolarsError) (error : PolarsError)
    → Yields steps s taken t → steps t (Some x) u → pos last ≡ last_of old +ℤ pos (sum taken)
    → Answers {X = ℕ} (Err error) (limit_fault greatest (pos (last + x))) P → result ≡ Err error
    → ExtendsByLengths steps s greatest old new result
refused_at steps greatest s t u old new taken x last P result error given step at answer is =
    let sum_is : pos (last + x) ≡ last_of old +ℤ pos (sum (taken ++ x ∷ [])) = sum_more (last_of old) (last + x) last x taken refl at in
    rw is (
      taken ++ x ∷ [],
      answers_err (limit_fault greatest (pos (last + x))) (limit_fault greatest (last_of old +ℤ pos (sum (taken ++ x ∷ [])))) P _ error answer (λ cause e. rw (← sum_is) e),
      (u, yields_more steps s t u taken x given step),
    )

pub kept_front : {X : Type 0} (f : X → ℤ) (xs : List X) (new : List ℤ) (taken : List ℕ) → new ≡ extended (map f xs) taken → take (length xs) new ≡ map f xs
kept_front f xs new taken e =
    ap (take (length xs)) e
    ∙ ap (λ n. take n (extended (map f xs) taken)) (sym (length-map xs f))
    ∙ front-extended (map f xs) taken

-- ---- slots of no bytes

map-replicate : {X : Type 0} (f : X → ℤ) (n : ℕ) (x : X) → map f (replicate n x) ≡ replicate n (f x)
map-replicate f zero x = refl
map-replicate f (suc n) x = ap (λ ys. f x ∷ ys) (map-replicate f n x)

not_above : (z : ℤ) → z ≤ℤ z
not_above z = omega (arith, ints)

sound_constant : (k : ℕ) (offsets : List ℤ) → AreSoundOffsets offsets → AreSoundOffsets (offsets ++ replicate k (last_of offsets))
sound_constant zero offsets sound = rw (append-nil offsets) sound
sound_constant (suc k) offsets sound =
    let last = last_of offsets in
    let next = sound_constant k (offsets ++ last ∷ []) (sound_push offsets last sound (not_above last)) in
    let same : last_of (offsets ++ last ∷ []) ≡ last = last_of-push offsets last in
    subst AreSoundOffsets (append_assoc offsets (last ∷ []) (replicate k last)) (subst (λ z. AreSoundOffsets ((offsets ++ last ∷ []) ++ replicate k z)) same next)

last_of-constant : (k : ℕ) (offsets : List ℤ) → last_of (offsets ++ replicate k (last_of offsets)) ≡ last_of offsets
last_of-constant zero offsets = ap last_of (append-nil offsets)
last_of-constant (suc k) offsets =
    let last = last_of offsets in
    let same : last_of (offsets ++ last ∷ []) ≡ last = last_of-push offsets last in
    ap last_of (sym (append_assoc offsets (last ∷ []) (replicate k last)) ∙ ap (λ z. (offsets ++ last ∷ []) ++ replicate k z) (sym same))
    ∙ last_of-constant k (offsets ++ last ∷ []) ∙ same

pub within_constant : (greatest k : ℕ) (offsets : List ℤ) → AreOffsetsWithin greatest offsets → AreOffsetsWithin greatest (offsets ++ replicate k (last_of offsets))
within_constant greatest k offsets within = record {
  sound = sound_constant k offsets within.sound;
  within_type = rw (last_of-constant k offsets) within.within_type;
}

pub grown_constant : {X : Type 0} (f : X → ℤ) (xs new : List X) (x : X) (k count len : ℕ) → new ≡ take count xs ++ replicate (count - len) x → len ≡ length xs → count ≡ len + k → f x ≡ last_of (map f xs) → map f new ≡ map f xs ++ replicate k (last_of (map f xs))
grown_constant f xs new x k count len e there more is =
    let all : take count xs ≡ xs = take_all count xs (omega arith) in
    let extra : count - len ≡ k = omega arith in
    ap (map f) e ∙ rw (all, extra) (map-append f xs (replicate k x)) ∙ ap (λ zs. map f xs ++ zs) (map-replicate f k x ∙ ap (replicate k) is)

pub truncated : {X : Type 0} (f : X → ℤ) (old new kept : List X) (count : ℕ) → kept ≡ take count new → count ≡ length old → take (length old) (map f new) ≡ map f old → map f kept ≡ map f old
truncated f old new kept count e there front =
    ap (map f) e ∙ sym (take-map f count new) ∙ ap (λ n. take n (map f new)) there ∙ front

pub on_err : {T E : Type 0} (r : Result T E) (P : Type 0) → P → OnErr r P
on_err (Ok x) P p = tt
on_err (Err e) P p = p

-- ---- the lengths of a list

not_passed : (greatest : ℕ) (last : ℤ) → last ≤ℤ pos greatest → int_lt (pos greatest) last ≡ false
not_passed greatest last below = grind (arith, ints)

pub within_limit : (greatest : ℕ) (last : ℤ) → last ≤ℤ pos greatest → limit_fault greatest last ≡ None
within_limit greatest last below = rw (not_passed greatest last below) refl

limit_passed : (greatest n m : ℕ) (last : ℤ) → n ≤ m → int_lt (pos greatest) (last +ℤ pos n) ≡ true → int_lt (pos greatest) (last +ℤ pos m) ≡ true
limit_passed greatest n m last le e = grind (arith, ints)

limit_more : (greatest n m : ℕ) (last : ℤ) (cause : Cause) → n ≤ m → limit_fault greatest (last +ℤ pos n) ≡ Some cause → limit_fault greatest (last +ℤ pos m) ≡ Some cause
limit_more greatest n m last cause le e =
    let parts = cause_some (int_lt (pos greatest) (last +ℤ pos n)) Overflow cause e in
    rw (limit_passed greatest n m last le parts.0) (ap Some parts.1)

module _ {S : Type 0} (rest : S → List ℕ) where
  yielded_front : (s t : S) (xs : List ℕ) → Yields (YieldsFirst rest) s xs t → rest s ≡ xs ++ rest t
  yielded_front s t [] same = ap rest same
  yielded_front s t (x ∷ xs) given = given.1 ∙ ap (λ ys. x ∷ ys) (yielded_front given.0 t xs given.2)

  drained_all : (s : S) (xs : List ℕ) → Drains (YieldsFirst rest) s xs → rest s ≡ xs
  drained_all s xs given =
      yielded_front s given.1.0 xs given.1.1 ∙ ap (λ ys. xs ++ ys) given.1.2.0 ∙ append-nil xs

  pub by_list : (s : S) (greatest : ℕ) (old new : List ℤ) (result : Result (Unit {0}) PolarsError) → ExtendsByLengths (YieldsFirst rest) s greatest old new result
      → Answers result (limit_fault greatest (last_of old +ℤ pos (sum (rest s)))) (λ _. new ≡ extended old (rest s))
  by_list s greatest old new (Ok x) given = rw (drained_all s given.0 given.2) given.1
  by_list s greatest old new (Err (ComputeError cause)) given =
      let whole : sum (rest s) ≡ sum given.0 + sum (rest given.2.0) = ap sum (yielded_front s given.2.0 given.0 given.2.1) ∙ sum_by-append (λ k. k) given.0 (rest given.2.0) in
      (limit_more greatest (sum given.0) (sum (rest s)) (last_of old) cause (omega arith) given.1.0, given.1.1)
  by_list s greatest old new (Err (OutOfBounds cause)) given =
      let whole : sum (rest s) ≡ sum given.0 + sum (rest given.2.0) = ap sum (yielded_front s given.2.0 given.0 given.2.1) ∙ sum_by-append (λ k. k) given.0 (rest given.2.0) in
      (limit_more greatest (sum given.0) (sum (rest s)) (last_of old) cause (omega arith) given.1.0, given.1.1)
  by_list s greatest old new (Err NoMemory) given = tt

pub ruleset growing = (map_pushed, last_of-extended, extended-snoc)

-- Laws of sound offsets.
use Rattle.std.proofs.Common.{◌≡◌, ℕ, zero, suc, ◌+◌, ◌-◌, ◌<◌, ◌≤◌, ℤ, pos, negsuc, List, [], ◌∷◌, ◌++◌, length, get_or, take, drop, map, refl, sym, ◌∙◌, ap, arith}
use Rattle.std.specs.Prelude.{◌≤ℤ◌, ◌+ℤ◌, int_lt, Bool, true, false, ◌||◌, None}
use Rattle.std.proofs.lemmas.Int.{ints}
use Rattle.std.proofs.lemmas.List.{length-map, map-append, get_or-map, take_more}
use Rattle.column_base.specs.declared.errors.Cause.TheVariants.{OffsetsNegative, OffsetsNotMonotone}
use Rattle.column_base.specs.Answers.{cause_if}
use Rattle.column_base.proofs.AnswersLemmas.{cause_none, first_none}
use Rattle.column_base.specs.Lists.{sublist}
use Rattle.column_base.proofs.ListsLemmas.{length-sublist, map-sublist}
use Rattle.column_offset.specs.Offsets.{nat_of, offset_at, last_of, AreSoundOffsets, AreOffsetsWithin, falls, offsets_fault}

-- ---- reading

pub offset_at-drop : (offsets : List ℤ) (from i : ℕ) → offset_at (drop from offsets) i ≡ offset_at offsets (from + i)
offset_at-drop offsets zero i = let e : 0 + i ≡ i = omega arith in rw e refl
offset_at-drop [] (suc from) i = refl
offset_at-drop (n ∷ ns) (suc from) i = let e : suc from + i ≡ suc (from + i) = omega arith in rw e (offset_at-drop ns from i)

pub offset_at-take : (offsets : List ℤ) (n i : ℕ) → i < n → offset_at (take n offsets) i ≡ offset_at offsets i
offset_at-take offsets zero i below = absurd (omega arith)
offset_at-take [] (suc n) i below = refl
offset_at-take (x ∷ xs) (suc n) zero below = refl
offset_at-take (x ∷ xs) (suc n) (suc i) below = offset_at-take xs n i (omega arith)

pub offset_at-sublist : (offsets : List ℤ) (from n i : ℕ) → i < n → offset_at (sublist offsets from n) i ≡ offset_at offsets (from + i)
offset_at-sublist offsets from n i below = offset_at-take (drop from offsets) n i below ∙ offset_at-drop offsets from i

-- ---- order

pub in_order : {offsets : List ℤ} (sound : AreSoundOffsets offsets) (i n : ℕ) → i + n < length offsets → offset_at offsets i ≤ℤ offset_at offsets (i + n)
in_order {offsets} sound i zero within = let e : i + 0 ≡ i = omega arith in rw e (omega (arith, ints))
in_order {offsets} sound i (suc n) within =
    let before = in_order sound i n (omega arith) in
    let step = sound.never_falls (i + n) (omega arith) in
    let e : i + suc n ≡ i + n + 1 = omega arith in
    rw e (omega (arith, ints))

-- each offset is 0 or more
pub from_zero : {offsets : List ℤ} (sound : AreSoundOffsets offsets) (i : ℕ) → i < length offsets → pos 0 ≤ℤ offset_at offsets i
from_zero {offsets} sound i within =
    let starts = sound.starts in
    let order : offset_at offsets 0 ≤ℤ offset_at offsets (0 + i) = in_order sound 0 i (omega arith) in
    let e : 0 + i ≡ i = omega arith in
    let order' = rw e at order in
    omega (arith, ints)

pub nat_of_order : (a b : ℤ) → a ≤ℤ b → nat_of a ≤ nat_of b
nat_of_order (pos a) (pos b) order = omega (arith, ints)
nat_of_order (pos a) (negsuc b) order = absurd (omega (arith, ints))
nat_of_order (negsuc a) b order = omega arith

pub pos-nat_of : (z : ℤ) → pos 0 ≤ℤ z → pos (nat_of z) ≡ z
pos-nat_of (pos n) h = refl
pos-nat_of (negsuc n) h = absurd (omega (arith, ints))

pub places_in_order : (offsets : List ℤ) (i j : ℕ) → AreSoundOffsets offsets → i ≤ j → j < length offsets → nat_of (offset_at offsets i) ≤ nat_of (offset_at offsets j)
places_in_order offsets i j sound le within =
    let n = j - i in
    let e : i + n ≡ j = omega arith in
    let order : offset_at offsets i ≤ℤ offset_at offsets (i + n) = in_order sound i n (omega arith) in
    nat_of_order _ _ (rw e at order)

pub place_below_last : (offsets : List ℤ) (i : ℕ) → AreSoundOffsets offsets → i < length offsets → nat_of (offset_at offsets i) ≤ nat_of (last_of offsets)
place_below_last offsets i sound within = places_in_order offsets i (length offsets - 1) sound (omega arith) (omega arith)

-- ---- parts

pub sound_sublist : (offsets : List ℤ) (from n : ℕ) → AreSoundOffsets offsets → 0 < n → from + n ≤ length offsets → AreSoundOffsets (sublist offsets from n)
sound_sublist offsets from n sound some within =
    let count : length (sublist offsets from n) ≡ n = length-sublist offsets from n within in
    record {
      not_empty = omega arith;
      starts = (rw (offset_at-sublist offsets from n 0 some) (from_zero sound (from + 0) (omega arith)));
      never_falls = λ i below.
          let e : from + (i + 1) ≡ from + i + 1 = omega arith in
          rw (offset_at-sublist offsets from n i (omega arith), offset_at-sublist offsets from n (i + 1) (omega arith), e)
          (sound.never_falls (from + i) (omega arith));
    }

-- the last offset of a part is at most the last of all
last_below : (greatest : ℕ) (offsets : List ℤ) (i : ℕ) → AreOffsetsWithin greatest offsets → i < length offsets → offset_at offsets i ≤ℤ pos greatest
last_below greatest offsets i all within =
    let n = length offsets - 1 - i in
    let limit = all.within_type in
    let e : i + n ≡ length offsets - 1 = omega arith in
    let order : offset_at offsets i ≤ℤ offset_at offsets (i + n) = in_order all.sound i n (omega arith) in
    let order' = rw e at order in
    omega (arith, ints)

pub within_sublist : (greatest : ℕ) (offsets : List ℤ) (from n : ℕ) → AreOffsetsWithin greatest offsets → 0 < n → from + n ≤ length offsets → AreOffsetsWithin greatest (sublist offsets from n)
within_sublist greatest offsets from n all some within =
    let count : length (sublist offsets from n) ≡ n = length-sublist offsets from n within in
    record {
      sound = sound_sublist offsets from n all.sound some within;
      within_type = rw (count, offset_at-sublist offsets from n (n - 1) (omega arith)) (last_below greatest offsets (from + (n - 1)) all (omega arith));
    }

-- ---- faults

or_false_left : (a b : Bool) → a || b ≡ false → a ≡ false
or_false_left false b e = refl
or_false_left true b e = e

or_false_right : (a b : Bool) → a || b ≡ false → b ≡ false
or_false_right false b e = e
or_false_right true b e = absurd (cc)

not_below : (a b : ℤ) → int_lt b a ≡ false → a ≤ℤ b
not_below a b e = grind (arith, ints)

not_below_back : (a b : ℤ) → a ≤ℤ b → int_lt b a ≡ false
not_below_back a b e = grind (arith, ints)

never_falls_from : (before : ℤ) (ns : List ℤ) → falls before ns ≡ false → (i : ℕ) → i + 1 < length (before ∷ ns) → offset_at (before ∷ ns) i ≤ℤ offset_at (before ∷ ns) (i + 1)
never_falls_from before [] e i within = absurd (omega arith)
never_falls_from before (n ∷ ns) e zero within = not_below before n (or_false_left (int_lt n before) (falls n ns) e)
never_falls_from before (n ∷ ns) e (suc i) within =
    let s : suc i + 1 ≡ suc (i + 1) = omega arith in
    rw s (never_falls_from n ns (or_false_right (int_lt n before) (falls n ns) e) i (omega arith))

falls_not : (before : ℤ) (ns : List ℤ) → ((i : ℕ) → i + 1 < length (before ∷ ns) → offset_at (before ∷ ns) i ≤ℤ offset_at (before ∷ ns) (i + 1)) → falls before ns ≡ false
falls_not before [] order = refl
falls_not before (n ∷ ns) order =
    rw (not_below_back before n (order 0 (omega arith)))
    (falls_not n ns (λ i below. let s : suc i + 1 ≡ suc (i + 1) = omega arith in let step = order (suc i) (omega arith) in rw s at step))

pub sound_where_no_fault : (offsets : List ℤ) → offsets_fault offsets ≡ None → AreSoundOffsets offsets
sound_where_no_fault [] e = absurd (cc)
sound_where_no_fault (n ∷ ns) e =
    let parts = first_none (cause_if (int_lt n (pos 0)) OffsetsNegative) (cause_if (falls n ns) OffsetsNotMonotone) e in
    record {
      not_empty = omega arith;
      starts = not_below (pos 0) n (cause_none _ OffsetsNegative parts.0);
      never_falls = never_falls_from n ns (cause_none _ OffsetsNotMonotone parts.1);
    }

pub no_fault_where_sound : (offsets : List ℤ) → AreSoundOffsets offsets → offsets_fault offsets ≡ None
no_fault_where_sound [] sound = absurd (omega (arith, sound.not_empty))
no_fault_where_sound (n ∷ ns) sound = rw (not_below_back (pos 0) n sound.starts, falls_not n ns sound.never_falls) refl

-- ---- offsets of a slice of the program

-- what `xs[i]` is of the numbers
pub offset_at-map : {X : Type 0} (f : X → ℤ) (xs : List X) (i : ℕ) (x : X) → x ≡ get_or xs i x → i < length xs → offset_at (map f xs) i ≡ f x
offset_at-map f xs i x read within = get_or-map f xs i x (pos 0) within ∙ ap f (sym read)

pub read_from_zero : {X : Type 0} (f : X → ℤ) (xs : List X) (i : ℕ) (x : X) → AreSoundOffsets (map f xs) → x ≡ get_or xs i x → i < length xs → pos 0 ≤ℤ f x
read_from_zero f xs i x sound read within =
    let count = length-map xs f in
    let place : i < length (map f xs) = omega arith in
    rw (sym (offset_at-map f xs i x read within)) (from_zero sound i place)

-- what a slice of them is
pub sound_part : {X : Type 0} (f : X → ℤ) (xs : List X) (from n : ℕ) → AreSoundOffsets (map f xs) → 0 < n → from + n ≤ length (map f xs) → AreSoundOffsets (map f (sublist xs from n))
sound_part f xs from n sound some within = rw (map-sublist f xs from n) (sound_sublist (map f xs) from n sound some within)

pub within_part : {X : Type 0} (greatest : ℕ) (f : X → ℤ) (xs : List X) (from n : ℕ) → AreOffsetsWithin greatest (map f xs) → 0 < n → from + n ≤ length (map f xs) → AreOffsetsWithin greatest (map f (sublist xs from n))
within_part greatest f xs from n all some within = rw (map-sublist f xs from n) (within_sublist greatest (map f xs) from n all some within)

pub range_is : (offsets : List ℤ) (d : ℕ) (r : ℤ) → AreSoundOffsets offsets → d + nat_of (offset_at offsets 0) ≡ nat_of (last_of offsets) → r ≡ pos d → r +ℤ offset_at offsets 0 ≡ last_of offsets
range_is offsets d r sound e f =
    let some = sound.not_empty in
    let first : pos (nat_of (offset_at offsets 0)) ≡ offset_at offsets 0 = pos-nat_of _ sound.starts in
    let last : pos (nat_of (last_of offsets)) ≡ last_of offsets = pos-nat_of _ (from_zero sound (length offsets - 1) (omega arith)) in
    omega (arith, ints)

pub place_limit : (offsets : List ℤ) (i last greatest : ℕ) → AreSoundOffsets offsets → i < length offsets → pos last ≡ last_of offsets → last ≤ greatest → nat_of (offset_at offsets i) ≤ greatest
place_limit offsets i last greatest sound within e limit =
    let below = place_below_last offsets i sound within in
    let same : last ≡ nat_of (last_of offsets) = ap nat_of e in
    omega arith

-- a loop over the numbers, one more of which is there
pub numbers_more : {X : Type 0} (f : X → ℤ) (offsets : List ℤ) (xs new : List X) (x : X) (i place : ℕ) → map f xs ≡ take i offsets → new ≡ xs ++ x ∷ [] → f x ≡ pos place → place ≡ nat_of (offset_at offsets i) → AreSoundOffsets offsets → i < length offsets → map f new ≡ take (i + 1) offsets
numbers_more f offsets xs new x i place before e number there sound within =
    let here : f x ≡ offset_at offsets i = number ∙ ap pos there ∙ pos-nat_of _ (from_zero sound i within) in
    ap (map f) e ∙ map-append f xs (x ∷ []) ∙ ap (λ ns. ns ++ f x ∷ []) before ∙ ap (λ n. take i offsets ++ n ∷ []) here ∙ sym (take_more offsets i (pos 0) within)

pub ruleset sound_offsets = (places_in_order, place_below_last, length-map)

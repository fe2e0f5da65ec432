-- Laws of lists that take rows.
use Rattle.std.proofs.Common.{◌≡◌, ℕ, zero, suc, ◌+◌, ◌-◌, ◌<◌, ◌≤◌, ◌≤ℤ◌, ℤ, pos, Bool, true, false, List, [], ◌∷◌, ◌++◌, length, map, slice_range, Option, Some, None, refl, sym, ◌∙◌, ap, subst, arith, append_assoc}
use Rattle.std.specs.Prelude.{◌+ℤ◌, sum, int_lt}
use Rattle.std.proofs.Math.Seq.{drop-append_seam, take-length}
use Rattle.std.proofs.lemmas.List.{length-append, append-nil, take-append-le}
use Rattle.std.proofs.lemmas.List.Sums.{sum_by-cons}
use Rattle.std.proofs.lemmas.Int.{ints}
use Rattle.column_base.specs.declared.errors.Cause.{Cause}
use Rattle.column_base.specs.Answers.{◌or_else◌}
use Rattle.column_base.specs.Kinds.{Slot}
use Rattle.column_base.specs.Pushes.{grown, growth_fault}
use Rattle.column_storage.specs.Bits.{pushed_flag}
use Rattle.column_storage.specs.Slots.{flagged_slots}
use Rattle.column_storage.specs.Validity.{AreFlagsOf}
use Rattle.column_offset.specs.Offsets.{AreSoundOffsets, last_of, offset_at, nat_of}
use Rattle.column_offset.specs.Growth.{pushed, limit_fault}
use Rattle.column_offset.specs.Text.{pieces}
use Rattle.column_offset.proofs.OffsetsLemmas.{place_below_last}
use Rattle.column_offset.proofs.GrowthLemmas.{sound_extended, last_of-push}
use Rattle.column_binary.specs.Slots.{OffsetLists, offset_lists, slot_count, offset_slots}
use Rattle.column_binary.specs.Rows.{AreFullLists, pushed_row, row_fault, row_growth, row_length, slot_of}
use Rattle.column_storage.proofs.GrowingFlagsLemmas.{are_flags-pushed, flagged_slots-pushed}
use Rattle.column_binary.proofs.SlotsLemmas.{flagged, length-pieces}

-- ---- one slot more

-- lists with one slot more, of bytes that are put at the end of the values
one_more : OffsetLists → List ℕ → Bool → OffsetLists
one_more lists bytes bit = offset_lists (pushed lists.offsets (length bytes)) (lists.values ++ bytes) (pushed_flag (slot_count lists) lists.flags bit)

full_more : (lists : OffsetLists) (bytes : List ℕ) (bit : Bool) → AreFullLists lists → AreFullLists (one_more lists bytes bit)
unfolding one_more
full_more lists bytes bit full =
    let sound = full.sound in
    let some = sound.sound.not_empty in
    let offsets = lists.offsets in
    let next : ℤ = last_of offsets +ℤ pos (length bytes) in
    let count : length (offsets ++ next ∷ []) ≡ length offsets + 1 = length-append offsets (next ∷ []) in
    let size = length-append lists.values bytes in
    let last : last_of (offsets ++ next ∷ []) ≡ next = last_of-push offsets next in
    let end = full.full in
    let all : last_of (pushed offsets (length bytes)) ≡ pos (length (lists.values ++ bytes)) = rw (last, size, end) (omega (arith, ints)) in
    let slots : slot_count lists + 1 ≡ length (offsets ++ next ∷ []) - 1 = omega arith in
    record {
      sound = record {
        sound = sound_extended offsets (length bytes ∷ []) sound.sound;
        within = rw all (omega (arith, ints));
        flagged = subst (λ (n : ℕ). AreFlagsOf n (pushed_flag (slot_count lists) lists.flags bit)) slots (are_flags-pushed (slot_count lists) lists.flags bit sound.flagged);
      };
      full = all;
    }

pub full_row : (lists : OffsetLists) (row : Option (List ℕ)) → AreFullLists lists → AreFullLists (pushed_row lists row)
unfolding one_more
full_row lists None full = subst (λ (values : List ℕ). AreFullLists (offset_lists (pushed lists.offsets 0) values (pushed_flag (slot_count lists) lists.flags false))) (append-nil lists.values) (full_more lists [] false full)
full_row lists (Some bytes) full = full_more lists bytes true full

-- ---- its slots

last_of-rest : (a b : ℤ) (ns : List ℤ) → last_of (a ∷ b ∷ ns) ≡ last_of (b ∷ ns)
last_of-rest a b ns = let e : length (a ∷ b ∷ ns) - 1 ≡ suc (length (b ∷ ns) - 1) = omega arith in rw e refl

pieces-one : (start : ℤ) (ns : List ℤ) (z : ℤ) (vs : List ℕ) → pieces ((start ∷ ns) ++ z ∷ []) vs ≡ pieces (start ∷ ns) vs ++ slice_range vs (nat_of (last_of (start ∷ ns))) (nat_of z) ∷ []
pieces-one start [] z vs = refl
pieces-one start (n ∷ ns) z vs =
    ap (λ ps. slice_range vs (nat_of start) (nat_of n) ∷ ps) (pieces-one n ns z vs)
    ∙ ap (λ (last : ℤ). pieces (start ∷ n ∷ ns) vs ++ slice_range vs (nat_of last) (nat_of z) ∷ []) (sym (last_of-rest start n ns))

front_range : (xs ys : List ℕ) (a b : ℕ) → b ≤ length xs → slice_range (xs ++ ys) a b ≡ slice_range xs a b
front_range xs ys zero b within = let e : b - 0 ≡ b = omega arith in rw e (take-append-le b xs ys within)
front_range [] ys (suc a) b within = let e : b - suc a ≡ 0 = omega arith in rw e refl
front_range (x ∷ xs) ys (suc a) zero within = let e : 0 - suc a ≡ 0 = omega arith in rw e refl
front_range (x ∷ xs) ys (suc a) (suc b) within = let e : suc b - suc a ≡ b - a = omega arith in rw e (front_range xs ys a b (omega arith))

back_range : (xs ys : List ℕ) (a b : ℕ) → a ≡ length xs → b ≡ length xs + length ys → slice_range (xs ++ ys) a b ≡ ys
back_range xs ys a b first last =
    let n : b - a ≡ length ys = omega arith in
    rw (n, first, drop-append_seam xs ys) (take-length ys)

pub pieces-front : (ns : List ℤ) (xs ys : List ℕ) → ((i : ℕ) → i < length ns → nat_of (offset_at ns i) ≤ length xs) → pieces ns (xs ++ ys) ≡ pieces ns xs
pieces-front [] xs ys within = refl
pieces-front (a ∷ []) xs ys within = refl
pieces-front (a ∷ b ∷ ns) xs ys within =
    ap (λ p. p ∷ pieces (b ∷ ns) (xs ++ ys)) (front_range xs ys (nat_of a) (nat_of b) (within 1 (omega arith)))
    ∙ ap (λ ps. slice_range xs (nat_of a) (nat_of b) ∷ ps) (pieces-front (b ∷ ns) xs ys (λ i below. within (suc i) (omega arith)))

pub pieces-pushed : (ns : List ℤ) (z : ℤ) (xs ys : List ℕ) → AreSoundOffsets ns → last_of ns ≡ pos (length xs) → z ≡ last_of ns +ℤ pos (length ys) → pieces (ns ++ z ∷ []) (xs ++ ys) ≡ pieces ns xs ++ ys ∷ []
pieces-pushed [] z xs ys sound full next = absurd (omega (arith, sound.not_empty))
pieces-pushed (start ∷ ns) z xs ys sound full next =
    let last : nat_of (last_of (start ∷ ns)) ≡ length xs = ap nat_of full in
    let end : nat_of z ≡ length xs + length ys = ap nat_of (next ∙ ap (λ n. n +ℤ pos (length ys)) full) in
    let front = pieces-front (start ∷ ns) xs ys (λ i below. let order = place_below_last (start ∷ ns) i sound below in omega arith) in
    pieces-one start ns z (xs ++ ys)
    ∙ ap (λ ps. ps ++ slice_range (xs ++ ys) (nat_of (last_of (start ∷ ns))) (nat_of z) ∷ []) front
    ∙ ap (λ p. pieces (start ∷ ns) xs ++ p ∷ []) (back_range xs ys _ _ last end)

slots_more : (lists : OffsetLists) (bytes : List ℕ) (bit : Bool) → AreFullLists lists → offset_slots (one_more lists bytes bit) ≡ offset_slots lists ++ record { valid = bit; bytes = bytes } ∷ []
unfolding one_more offset_slots
slots_more lists bytes bit full =
    let sound = full.sound in
    let offsets = lists.offsets in
    let next : ℤ = last_of offsets +ℤ pos (length bytes) in
    ap (flagged_slots (pushed_flag (slot_count lists) lists.flags bit)) (pieces-pushed offsets next lists.values bytes sound.sound full.full refl)
    ∙ ap (λ (n : ℕ). flagged_slots (pushed_flag n lists.flags bit) (pieces offsets lists.values ++ bytes ∷ [])) (sym (length-pieces offsets lists.values))
    ∙ flagged_slots-pushed lists.flags (pieces offsets lists.values) bit bytes (flagged lists sound)

pub slots-row : (lists : OffsetLists) (row : Option (List ℕ)) → AreFullLists lists → offset_slots (pushed_row lists row) ≡ offset_slots lists ++ slot_of row ∷ []
unfolding one_more
slots-row lists None full =
    ap (λ (values : List ℕ). offset_slots (offset_lists (pushed lists.offsets 0) values (pushed_flag (slot_count lists) lists.flags false))) (sym (append-nil lists.values)) ∙ slots_more lists [] false full
slots-row lists (Some bytes) full = slots_more lists bytes true full

not_more : (z : ℤ) → z +ℤ pos 0 ≡ z
not_more z = omega (arith, ints)

pub pushed-none : (offsets : List ℤ) → offsets ++ last_of offsets ∷ [] ≡ pushed offsets 0
pushed-none offsets = ap (λ (z : ℤ). offsets ++ z ∷ []) (sym (not_more (last_of offsets)))

-- ---- many rows

pub full_rows : (greatest : ℕ) (lists : OffsetLists) (rows : List (Option (List ℕ))) → AreFullLists lists → AreFullLists (grown (row_growth greatest) lists rows)
full_rows greatest lists [] full = full
full_rows greatest lists (row ∷ rows) full = full_rows greatest (pushed_row lists row) rows (full_row lists row full)

pub slots_rows : (greatest : ℕ) (lists : OffsetLists) (rows : List (Option (List ℕ))) → AreFullLists lists → offset_slots (grown (row_growth greatest) lists rows) ≡ offset_slots lists ++ map slot_of rows
slots_rows greatest lists [] full = sym (append-nil (offset_slots lists))
slots_rows greatest lists (row ∷ rows) full =
    slots_rows greatest (pushed_row lists row) rows (full_row lists row full)
    ∙ ap (λ (slots : List Slot). slots ++ map slot_of rows) (slots-row lists row full)
    ∙ append_assoc (offset_slots lists) (slot_of row ∷ []) (map slot_of rows)

more_bytes : (z : ℤ) (n m k : ℕ) → k ≡ n + m → (z +ℤ pos n) +ℤ pos m ≡ z +ℤ pos k
more_bytes z n m k e = omega (arith, ints)

within_limit : (greatest : ℕ) (last : ℤ) → last ≤ℤ pos greatest → int_lt (pos greatest) (last +ℤ pos 0) ≡ false
within_limit greatest last within = grind (arith, ints)

not_beyond : (greatest : ℕ) (last : ℤ) → int_lt (pos greatest) last ≡ false → last ≤ℤ pos greatest
not_beyond greatest last test = grind (arith, ints)

beyond_more : (greatest n m : ℕ) (last : ℤ) → int_lt (pos greatest) (last +ℤ pos n) ≡ true → n ≤ m → int_lt (pos greatest) (last +ℤ pos m) ≡ true
beyond_more greatest n m last test le = grind (arith, ints)

sum_rows : (row : Option (List ℕ)) (rows : List (Option (List ℕ))) → sum (map row_length (row ∷ rows)) ≡ row_length row + sum (map row_length rows)
sum_rows row rows = sum_by-cons (λ k. k) (row_length row) (map row_length rows)

one_row : (greatest : ℕ) (lists : OffsetLists) (bytes : List ℕ) (rest : ℕ) (others : Option Cause) (test : Bool) → int_lt (pos greatest) (last_of lists.offsets +ℤ pos (length bytes)) ≡ test
    → ((int_lt (pos greatest) (last_of lists.offsets +ℤ pos (length bytes)) ≡ false) → others ≡ limit_fault greatest (last_of lists.offsets +ℤ pos (length bytes + rest)))
    → row_fault greatest lists (Some bytes) or_else others ≡ limit_fault greatest (last_of lists.offsets +ℤ pos (length bytes + rest))
one_row greatest lists bytes rest others true is next =
    let beyond : int_lt (pos greatest) (last_of lists.offsets +ℤ pos (length bytes + rest)) ≡ true = beyond_more greatest (length bytes) (length bytes + rest) (last_of lists.offsets) is (omega arith) in
    rw (is, beyond) refl
one_row greatest lists bytes rest others false is next = rw is (next is)

pub fault_rows : (greatest : ℕ) (lists : OffsetLists) (rows : List (Option (List ℕ))) → last_of lists.offsets ≤ℤ pos greatest → growth_fault (row_growth greatest) lists rows ≡ limit_fault greatest (last_of lists.offsets +ℤ pos (sum (map row_length rows)))
fault_rows greatest lists [] within = let test = within_limit greatest (last_of lists.offsets) within in rw test refl
fault_rows greatest lists (None ∷ rows) within =
    let last : last_of (pushed lists.offsets 0) ≡ last_of lists.offsets = last_of-push lists.offsets (last_of lists.offsets +ℤ pos 0) ∙ not_more (last_of lists.offsets) in
    let all : sum (map row_length (None ∷ rows)) ≡ sum (map row_length rows) = let e = sum_rows None rows in omega arith in
    fault_rows greatest (pushed_row lists None) rows (rw last within)
    ∙ ap (λ (z : ℤ). limit_fault greatest (z +ℤ pos (sum (map row_length rows)))) last
    ∙ ap (λ (n : ℕ). limit_fault greatest (last_of lists.offsets +ℤ pos n)) (sym all)
fault_rows greatest lists (Some bytes ∷ rows) within =
    let last : last_of (pushed lists.offsets (length bytes)) ≡ last_of lists.offsets +ℤ pos (length bytes) = last_of-push lists.offsets (last_of lists.offsets +ℤ pos (length bytes)) in
    let rest = sum (map row_length rows) in
    one_row greatest lists bytes rest (growth_fault (row_growth greatest) (pushed_row lists (Some bytes)) rows) _ refl
    (λ test. fault_rows greatest (pushed_row lists (Some bytes)) rows (rw last (not_beyond greatest _ test))
    ∙ ap (λ (z : ℤ). limit_fault greatest (z +ℤ pos rest)) last
    ∙ ap (limit_fault greatest) (more_bytes (last_of lists.offsets) (length bytes) rest (length bytes + rest) refl))
    ∙ ap (λ (n : ℕ). limit_fault greatest (last_of lists.offsets +ℤ pos n)) (sym (sum_rows (Some bytes) rows))

pub ruleset rows = (full_row)

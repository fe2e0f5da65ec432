-- Slots that are written anew, and the lists that hold them.
use Rattle.std.proofs.Common.{◌≡◌, ℕ, zero, suc, ◌+◌, ◌-◌, ◌<◌, ◌≤◌, ◌≤ℤ◌, ℤ, pos, Bool, true, false, not, cond, List, [], ◌∷◌, ◌++◌, length, map, take, drop, slice_range, Option, Some, None, Result, Ok, Err, refl, sym, ◌∙◌, ap, subst, arith, append_assoc}
use Rattle.std.specs.Prelude.{◌+ℤ◌, sum, int_lt, nat_lt, ◌&&◌, count_by, slice_index_or}
use Rattle.std.specs.List.{concat}
use Rattle.std.specs.Iterator.{Yields, YieldsFirst}
use Rattle.std.proofs.Math.Seq.{take-length}
use Rattle.std.proofs.lemmas.List.{length-append, append-nil, take_more, drop_more, take_all, at_drop_all}
use Rattle.std.proofs.lemmas.List.Sums.{sum_by-cons, sum_by-append}
use Rattle.std.proofs.lemmas.Bool.Decides.{nat_tests}
use Rattle.std.proofs.lemmas.Int.{ints}
use Rattle.column_base.specs.declared.errors.Cause.{Cause}
use Rattle.column_base.specs.declared.errors.Cause.TheVariants.{Overflow}
use Rattle.column_base.specs.declared.errors.PolarsError.{PolarsError}
use Rattle.column_base.specs.declared.errors.PolarsError.TheVariants.{ComputeError, OutOfBounds, NoMemory}
use Rattle.column_base.specs.Answers.{Gives, Answers}
use Rattle.column_base.specs.Kinds.{Slot}
use Rattle.column_base.specs.Utf8.{is_well_formed_utf8}
use Rattle.column_base.proofs.AnswersLemmas.{cause_none}
use Rattle.column_base.specs.Pushes.{grown, growth_fault}
use Rattle.column_base.specs.Slots.{slot_at, values_of, row_of}
use Rattle.column_storage.specs.Bits.{flags_of, kept_flags, frozen_flags, joined_flags}
use Rattle.column_storage.specs.Slots.{flagged_slots}
use Rattle.column_storage.proofs.CountsLemmas.{unset-replicate}
use Rattle.column_storage.proofs.FlagsLemmas.{no_flags_fault}
use Rattle.column_storage.proofs.RangesLemmas.{range-length}
use Rattle.column_storage.proofs.SlotsLemmas.{flags-flagged_slots}
use Rattle.column_offset.specs.Offsets.{AreSoundOffsets, last_of, offset_at, nat_of}
use Rattle.column_offset.specs.Growth.{pushed, extended, lengths_of, limit_fault, ExtendsByLengths}
use Rattle.column_offset.specs.Text.{pieces, are_well_formed_utf8}
use Rattle.column_offset.proofs.GrowthLemmas.{last_of-push, within_limit}
use Rattle.column_offset.proofs.OffsetsLemmas.{place_below_last, pos-nat_of, nat_of_order}
use Rattle.column_offset.proofs.TextLemmas.{covered_is}
use Rattle.column_binary.specs.Slots.{OffsetLists, offset_lists, slot_count, offset_slots, AreSoundLists}
use Rattle.column_binary.specs.Rows.{AreFullLists, no_slots, slot_of, row_length, pushed_row, row_growth, used_lists, frozen_lists, joined_lists, builder_fault}
use Rattle.column_binary.proofs.SlotsLemmas.{flagged, length-pieces, values_of-offset_slots}
use Rattle.column_binary.proofs.FirstLemmas.{full-used, slots-used, slots-frozen}
use Rattle.column_binary.proofs.JoinLemmas.{lengths-full, full_joined, slots-joined, bytes_from}
use Rattle.column_binary.proofs.RowsLemmas.{full_rows, slots_rows, fault_rows}
use Rattle.column_utf8.specs.Texts.{AreSoundTexts}
use Rattle.column_relayout.specs.Written.{bytes_in, written_slots, bytes_fault, written_lists, HoldSlots}
use Rattle.column_rows.specs.Rows.{given_rows, bytes_in_rows}

-- ---- how many bytes slots have

pub bytes_in-cons : (slot : Slot) (slots : List Slot) → bytes_in (slot ∷ slots) ≡ length slot.bytes + bytes_in slots
bytes_in-cons slot slots = sum_by-cons (λ k. k) (length slot.bytes) (map length (values_of slots))

pub bytes_in-append : (front back : List Slot) → bytes_in (front ++ back) ≡ bytes_in front + bytes_in back
bytes_in-append [] back = omega arith
bytes_in-append (slot ∷ front) back =
    let all = bytes_in-cons slot (front ++ back) in
    let first = bytes_in-cons slot front in
    let rest = bytes_in-append front back in
    omega arith

pub length-concat : (slots : List Slot) → length (concat (values_of slots)) ≡ bytes_in slots
length-concat [] = refl
length-concat (slot ∷ slots) =
    let all = bytes_in-cons slot slots in
    let rest = length-concat slots in
    let both = length-append slot.bytes (concat (values_of slots)) in
    omega arith

pub bytes_in-rows : (rows : List (Option (List ℕ))) → bytes_in (map slot_of rows) ≡ sum (map row_length rows)
bytes_in-rows [] = refl
bytes_in-rows (row ∷ rows) =
    let all = bytes_in-cons (slot_of row) (map slot_of rows) in
    let rest = bytes_in-rows rows in
    let both : sum (map row_length (row ∷ rows)) ≡ row_length row + sum (map row_length rows) = sum_by-cons (λ k. k) (row_length row) (map row_length rows) in
    omega arith

-- rows have as many bytes as their slots
pub bytes_in-given : (rows : List (Option (List ℕ))) → bytes_in (map slot_of rows) ≡ bytes_in_rows rows
bytes_in-given [] = refl
bytes_in-given (None ∷ rows) =
    let all = bytes_in-cons (slot_of None) (map slot_of rows) in
    let rest = bytes_in-given rows in
    omega (arith, all, rest)
bytes_in-given (Some bytes ∷ rows) =
    let all = bytes_in-cons (slot_of (Some bytes)) (map slot_of rows) in
    let rest = bytes_in-given rows in
    let both : bytes_in_rows (Some bytes ∷ rows) ≡ length bytes + bytes_in_rows rows = sum_by-cons (λ k. k) (length bytes) (map length (given_rows rows)) in
    omega (arith, all, rest, both)

-- ---- valid slots as they are, null ones without bytes

less : (valid : Bool) (bytes : List ℕ) → length (slot_of (row_of (record { valid = valid; bytes = bytes }))).bytes ≤ length bytes
less true bytes = omega arith
less false bytes = omega arith

pub written_less : (slots : List Slot) → bytes_in (written_slots slots) ≤ bytes_in slots
written_less [] = omega arith
written_less (slot ∷ slots) =
    let all = bytes_in-cons slot slots in
    let first = bytes_in-cons (slot_of (row_of slot)) (written_slots slots) in
    let rest = written_less slots in
    let one = less slot.valid slot.bytes in
    omega arith

no_bytes : (bytes : List ℕ) → length bytes ≡ 0 → [] ≡ bytes
no_bytes [] none = refl
no_bytes (b ∷ bytes) none = absurd (omega arith)

same_slot : (valid : Bool) (bytes : List ℕ) → length (slot_of (row_of (record { valid = valid; bytes = bytes }))).bytes ≡ length bytes → slot_of (row_of (record { valid = valid; bytes = bytes })) ≡ record { valid = valid; bytes = bytes }
same_slot true bytes same = refl
same_slot false bytes same = ap (λ (bs : List ℕ). record { valid = false; bytes = bs }) (no_bytes bytes (sym same))

-- where no bytes lie in null slots
pub written_same : (slots : List Slot) → bytes_in (written_slots slots) ≡ bytes_in slots → written_slots slots ≡ slots
written_same [] same = refl
written_same (slot ∷ slots) same =
    let all = bytes_in-cons slot slots in
    let first = bytes_in-cons (slot_of (row_of slot)) (written_slots slots) in
    let rest = written_less slots in
    let one = less slot.valid slot.bytes in
    let here : length (slot_of (row_of slot)).bytes ≡ length slot.bytes = omega arith in
    let after : bytes_in (written_slots slots) ≡ bytes_in slots = omega arith in
    ap (λ (s : Slot). s ∷ written_slots slots) (same_slot slot.valid slot.bytes here)
    ∙ ap (λ (ss : List Slot). slot ∷ ss) (written_same slots after)

-- ---- lists that are taken over

module _ (lists : OffsetLists) (sound : AreSoundLists lists) where
  pub lengths_are : lengths_of lists.offsets ≡ map length (values_of (offset_slots lists))
  lengths_are =
      lengths-full (used_lists lists) (full-used lists sound)
      ∙ ap (map length) (sym (values_of-offset_slots (used_lists lists) (full-used lists sound).sound))
      ∙ ap (λ (slots : List Slot). map length (values_of slots)) (slots-used lists sound)

  pub used_are : slice_range lists.values (nat_of (offset_at lists.offsets 0)) (nat_of (last_of lists.offsets)) ≡ concat (values_of (offset_slots lists))
  used_are = covered_is lists.offsets lists.values sound.sound ∙ ap concat (sym (values_of-offset_slots lists sound))

  pub used_end : nat_of (last_of lists.offsets) ≤ length lists.values
  used_end = nat_of_order (last_of lists.offsets) (pos (length lists.values)) sound.within

  pub used_order : nat_of (offset_at lists.offsets 0) ≤ nat_of (last_of lists.offsets)
  used_order = place_below_last lists.offsets 0 sound.sound sound.sound.not_empty

  pub used_count : (greatest : ℕ) → last_of lists.offsets ≤ℤ pos greatest → bytes_in (offset_slots lists) ≤ greatest
  used_count greatest within =
      let order = nat_of_order (last_of lists.offsets) (pos greatest) within in
      let size = range-length lists.values (nat_of (offset_at lists.offsets 0)) (nat_of (last_of lists.offsets)) used_end in
      let is = ap length used_are in
      let all = length-concat (offset_slots lists) in
      omega arith

range_all : (xs : List ℕ) → slice_range xs 0 (length xs) ≡ xs
range_all xs = let e : length xs - 0 ≡ length xs = omega arith in rw e (take-length xs)

none_slots : offset_slots no_slots ≡ []
unfolding offset_slots flagged_slots
none_slots = refl

full_none : AreFullLists no_slots
full_none = record {
  sound = record {
    sound = record { not_empty = omega arith; starts = omega (arith, ints); never_falls = λ i below. absurd (omega arith) };
    within = omega (arith, ints);
    flagged = tt;
  };
  full = refl;
}

first_flags : (n : ℕ) (flags : Option (List Bool)) → joined_flags 0 None n flags ≡ flags
first_flags n None = refl
first_flags n (Some flags) = refl

starts-extended : (first : ℤ) (rest : List ℤ) (lengths : List ℕ) → offset_at (extended (first ∷ rest) lengths) 0 ≡ first
starts-extended first rest [] = refl
starts-extended first rest (n ∷ lengths) = starts-extended first (rest ++ (last_of (first ∷ rest) +ℤ pos n) ∷ []) lengths

taken : OffsetLists → OffsetLists
taken lists = offset_lists (extended (pos 0 ∷ []) (lengths_of lists.offsets)) (concat (values_of (offset_slots lists))) lists.flags

taken_is : (lists : OffsetLists) → AreSoundLists lists → taken lists ≡ joined_lists no_slots (used_lists lists)
unfolding taken joined_lists
taken_is lists sound =
    let used = used_lists lists in
    let full = full-used lists sound in
    let bytes : concat (values_of (offset_slots lists)) ≡ concat (pieces used.offsets used.values) =
    ap (λ (slots : List Slot). concat (values_of slots)) (sym (slots-used lists sound)) ∙ ap concat (values_of-offset_slots used full.sound) in
    ap (λ (values : List ℕ). offset_lists (extended (pos 0 ∷ []) (lengths_of lists.offsets)) values lists.flags) bytes
    ∙ ap (offset_lists (extended (pos 0 ∷ []) (lengths_of lists.offsets)) (concat (pieces used.offsets used.values))) (sym (first_flags (slot_count used) lists.flags))

pub hold_taken : (lists new : OffsetLists) → AreSoundLists lists → new ≡ offset_lists (extended (pos 0 ∷ []) (lengths_of lists.offsets)) (concat (values_of (offset_slots lists))) lists.flags → HoldSlots new (offset_slots lists)
unfolding taken
hold_taken lists new sound is =
    let full = full-used lists sound in
    let same = is ∙ taken_is lists sound in
    record {
      full = subst AreFullLists (sym same) (full_joined no_slots (used_lists lists) full_none full);
      starts = ap (λ (ls : OffsetLists). offset_at ls.offsets 0) is ∙ starts-extended (pos 0) [] (lengths_of lists.offsets);
      slots_are =
          ap offset_slots same
          ∙ slots-joined no_slots (used_lists lists) full_none full
          ∙ ap (λ (front : List Slot). front ++ offset_slots (used_lists lists)) none_slots
          ∙ slots-used lists sound;
    }

-- The lists are kept, but for value bytes past the last offset, where offsets begin at 0.
pub hold_used : (lists new : OffsetLists) → AreSoundLists lists → offset_at lists.offsets 0 ≡ pos 0 → new ≡ used_lists lists → HoldSlots new (offset_slots lists)
hold_used lists new sound starts is = record {
  full = subst AreFullLists (sym is) (full-used lists sound);
  starts = ap (λ (ls : OffsetLists). offset_at ls.offsets 0) is ∙ starts;
  slots_are = ap offset_slots is ∙ slots-used lists sound;
}

-- the lists that are copied are these
pub taken_lists : (lists : OffsetLists) (offsets old : List ℤ) (values empty bytes : List ℕ) (flags : Option (List Bool)) → offsets ≡ extended (pos 0 ∷ []) (lengths_of old) → old ≡ lists.offsets → values ≡ empty ++ bytes → empty ≡ [] → bytes ≡ concat (values_of (offset_slots lists)) → flags ≡ lists.flags
    → offset_lists offsets values flags ≡ offset_lists (extended (pos 0 ∷ []) (lengths_of lists.offsets)) (concat (values_of (offset_slots lists))) lists.flags
taken_lists lists offsets old values empty bytes flags new same all none used kept =
    ap (λ (ns : List ℤ). offset_lists ns values flags) (new ∙ ap (λ (ns : List ℤ). extended (pos 0 ∷ []) (lengths_of ns)) same)
    ∙ ap (λ (bs : List ℕ). offset_lists (extended (pos 0 ∷ []) (lengths_of lists.offsets)) bs flags) (all ∙ ap (λ (front : List ℕ). front ++ bytes) none ∙ used)
    ∙ ap (offset_lists (extended (pos 0 ∷ []) (lengths_of lists.offsets)) (concat (values_of (offset_slots lists)))) kept

-- full lists have no fault
same_end : (last : ℤ) (n : ℕ) → last ≡ pos n → (int_lt (pos n) last ≡ false) × (int_lt last (pos n) ≡ false)
same_end last n is = (grind (arith, ints), grind (arith, ints))

pub no_fault_where_full : (lists : OffsetLists) (type : Option Cause) → AreFullLists lists → type ≡ None → builder_fault lists type ≡ None
no_fault_where_full lists type full none =
    let ends = same_end (last_of lists.offsets) (length lists.values) full.full in
    rw (ends.0, ends.1, none, (no_flags_fault (slot_count lists) lists.flags).1 full.sound.flagged) refl

-- ---- lengths that were taken

yields_front : {S : Type 0} (rest : S → List ℕ) (taken : List ℕ) (s t : S) → Yields (YieldsFirst rest) s taken t → rest s ≡ taken ++ rest t
yields_front rest [] s t same = ap rest same
yields_front rest (n ∷ taken) s t given = given.1 ∙ ap (λ (lengths : List ℕ). n ∷ lengths) (yields_front rest taken given.0 t given.2)

front_sum : (all taken more : List ℕ) → all ≡ taken ++ more → sum taken ≤ sum all
front_sum all taken more is =
    let both = sum_by-append (λ (n : ℕ). n) taken more in
    let same : sum all ≡ sum (taken ++ more) = ap sum is in
    omega (arith, both, same)

at_limit : (greatest n : ℕ) (last : ℤ) → last ≡ pos 0 → n ≤ greatest → (last +ℤ pos n) ≤ℤ pos greatest
at_limit greatest n last is within = omega (arith, ints)

module _ {S : Type 0} (rest : S → List ℕ) (s : S) (lengths : List ℕ) (all : rest s ≡ lengths) (greatest : ℕ) (within : sum lengths ≤ greatest) where
  none_past : (taken : List ℕ) (old : List ℤ) → last_of old ≡ pos 0 → (t : S) × Yields (YieldsFirst rest) s taken t → limit_fault greatest (last_of old +ℤ pos (sum taken)) ≡ None
  none_past taken old from yields =
      let front = front_sum lengths taken (rest yields.0) (sym all ∙ yields_front rest taken s yields.0 yields.1) in
      within_limit greatest _ (at_limit greatest (sum taken) (last_of old) from (omega arith))

  -- all lengths, where together they fit
  pub lengths_taken : (old new : List ℤ) (result : Result (Unit {0}) PolarsError) → old ≡ pos 0 ∷ [] → ExtendsByLengths (YieldsFirst rest) s greatest old new result → Answers result None (λ _. new ≡ extended (pos 0 ∷ []) lengths)
  lengths_taken old new (Ok done) from given =
      let drains = given.2 in
      let same : given.0 ≡ lengths = sym (sym all ∙ yields_front rest given.0 s drains.1.0 drains.1.1 ∙ ap (λ (more : List ℕ). given.0 ++ more) drains.1.2.0 ∙ append-nil given.0) in
      (refl, given.1.1 ∙ ap (λ (offsets : List ℤ). extended offsets given.0) from ∙ ap (extended (pos 0 ∷ [])) same)
  lengths_taken old new (Err (ComputeError cause)) from given = absurd (let none = none_past given.0 old (ap last_of from) given.2 in let some = given.1.0 in cc)
  lengths_taken old new (Err (OutOfBounds cause)) from given = absurd (let none = none_past given.0 old (ap last_of from) given.2 in let some = given.1.0 in cc)
  lengths_taken old new (Err NoMemory) from given = tt

-- ---- lists that hold slots

starts-row : (greatest : ℕ) (first : ℤ) (rest : List ℤ) (lists : OffsetLists) (rows : List (Option (List ℕ))) → lists.offsets ≡ first ∷ rest → offset_at (grown (row_growth greatest) lists rows).offsets 0 ≡ first
starts-row greatest first rest lists [] is = ap (λ (offsets : List ℤ). offset_at offsets 0) is
starts-row greatest first rest lists (None ∷ rows) is =
    starts-row greatest first (rest ++ (last_of (first ∷ rest) +ℤ pos 0) ∷ []) (pushed_row lists None) rows (ap (λ (offsets : List ℤ). pushed offsets 0) is)
starts-row greatest first rest lists (Some bytes ∷ rows) is =
    starts-row greatest first (rest ++ (last_of (first ∷ rest) +ℤ pos (length bytes)) ∷ []) (pushed_row lists (Some bytes)) rows (ap (λ (offsets : List ℤ). pushed offsets (length bytes)) is)

starts_kept : (greatest : ℕ) (offsets : List ℤ) (lists : OffsetLists) (rows : List (Option (List ℕ))) → lists.offsets ≡ offsets → 0 < length offsets → offset_at (grown (row_growth greatest) lists rows).offsets 0 ≡ offset_at offsets 0
starts_kept greatest [] lists rows is some = absurd (omega arith)
starts_kept greatest (first ∷ rest) lists rows is some = starts-row greatest first rest lists rows is

pub hold_none : HoldSlots no_slots []
hold_none = record { full = full_none; starts = refl; slots_are = none_slots }

-- the slots of rows after them
pub hold_rows : (greatest : ℕ) (lists new : OffsetLists) (slots : List Slot) (rows : List (Option (List ℕ))) → HoldSlots lists slots → new ≡ grown (row_growth greatest) lists rows → HoldSlots new (slots ++ map slot_of rows)
hold_rows greatest lists new slots rows hold is =
    let next : HoldSlots (grown (row_growth greatest) lists rows) (slots ++ map slot_of rows) = record {
      full = full_rows greatest lists rows hold.full;
      starts = starts_kept greatest lists.offsets lists rows refl hold.full.sound.sound.not_empty ∙ hold.starts;
      slots_are = slots_rows greatest lists rows hold.full ∙ ap (λ (ss : List Slot). ss ++ map slot_of rows) hold.slots_are;
    } in
    subst (λ (ls : OffsetLists). HoldSlots ls (slots ++ map slot_of rows)) (sym is) next

pub values_held : (lists : OffsetLists) (slots : List Slot) → HoldSlots lists slots → lists.values ≡ concat (values_of slots)
values_held lists slots hold =
    sym (range_all lists.values)
    ∙ bytes_from lists 0 (length lists.values) hold.full (sym hold.starts) refl
    ∙ ap concat (sym (values_of-offset_slots lists hold.full.sound))
    ∙ ap (λ (ss : List Slot). concat (values_of ss)) hold.slots_are

pub last_held : (lists : OffsetLists) (slots : List Slot) → HoldSlots lists slots → last_of lists.offsets ≡ pos (bytes_in slots)
last_held lists slots hold = hold.full.full ∙ ap (λ (bytes : List ℕ). pos (length bytes)) (values_held lists slots hold) ∙ ap pos (length-concat slots)

below : (greatest n m k : ℕ) (last : ℤ) → last ≡ pos n → n + m ≡ k → k ≤ greatest → (last ≤ℤ pos greatest) × ((last +ℤ pos m) ≤ℤ pos greatest)
below greatest n m k last is all within = (omega (arith, ints), omega (arith, ints))

-- no row is refused where all together fit
pub rows_fit : (greatest : ℕ) (lists : OffsetLists) (slots : List Slot) (rows : List (Option (List ℕ))) → HoldSlots lists slots → bytes_in (slots ++ map slot_of rows) ≤ greatest → growth_fault (row_growth greatest) lists rows ≡ None
rows_fit greatest lists slots rows hold within =
    let both = bytes_in-append slots (map slot_of rows) in
    let more = bytes_in-rows rows in
    let limits = below greatest (bytes_in slots) (sum (map row_length rows)) (bytes_in (slots ++ map slot_of rows)) (last_of lists.offsets) (last_held lists slots hold) (omega arith) within in
    fault_rows greatest lists rows limits.0 ∙ within_limit greatest _ limits.1

-- ---- lists that are frozen

next_offset : (a b : ℤ) → pos 0 ≤ℤ a → a ≤ℤ b → a +ℤ pos (nat_of b - nat_of a) ≡ b
next_offset a b from order =
    let start = pos-nat_of a from in
    let end : pos (nat_of b) ≡ b = pos-nat_of b (omega (arith, ints)) in
    let places = nat_of_order a b order in
    omega (arith, ints)

-- offsets are those from the first on, of slots of the same lengths
from_first : (front : List ℤ) (first : ℤ) (rest : List ℤ) → pos 0 ≤ℤ first → ((i : ℕ) → i + 1 < length (first ∷ rest) → offset_at (first ∷ rest) i ≤ℤ offset_at (first ∷ rest) (i + 1)) → extended (front ++ first ∷ []) (lengths_of (first ∷ rest)) ≡ front ++ first ∷ rest
from_first front first [] from rises = refl
from_first front first (next ∷ rest) from rises =
    let order : first ≤ℤ next = rises 0 (omega arith) in
    let last : last_of (front ++ first ∷ []) +ℤ pos (nat_of next - nat_of first) ≡ next =
    ap (λ (z : ℤ). z +ℤ pos (nat_of next - nat_of first)) (last_of-push front first) ∙ next_offset first next from order in
    ap (λ (z : ℤ). extended ((front ++ first ∷ []) ++ z ∷ []) (lengths_of (next ∷ rest))) last
    ∙ from_first (front ++ first ∷ []) next rest (omega (arith, ints)) (λ i below. let e : suc i + 1 ≡ suc (i + 1) = omega arith in let step = rises (suc i) (omega arith) in rw e at step)
    ∙ append_assoc front (first ∷ []) (next ∷ rest)

from_zero_on : (offsets : List ℤ) → AreSoundOffsets offsets → offset_at offsets 0 ≡ pos 0 → offsets ≡ extended (pos 0 ∷ []) (lengths_of offsets)
from_zero_on [] sound starts = absurd (omega (arith, sound.not_empty))
from_zero_on (first ∷ rest) sound starts =
    sym (from_first [] first rest sound.starts sound.never_falls) ∙ ap (λ (z : ℤ). extended (z ∷ []) (lengths_of (first ∷ rest))) starts

frozen_kept : (flags : Option (List Bool)) (n : ℕ) → frozen_flags flags ≡ kept_flags (flags_of n flags)
frozen_kept None n = rw (unset-replicate true n) refl
frozen_kept (Some flags) n = refl

valid_are : (lists : OffsetLists) → AreSoundLists lists → map (λ (slot : Slot). slot.valid) (offset_slots lists) ≡ flags_of (slot_count lists) lists.flags
unfolding offset_slots
valid_are lists sound =
    flags-flagged_slots lists.flags (pieces lists.offsets lists.values) (flagged lists sound)
    ∙ ap (λ (n : ℕ). flags_of n lists.flags) (length-pieces lists.offsets lists.values)

pub hold_written : (lists : OffsetLists) (slots : List Slot) → HoldSlots lists slots → frozen_lists lists ≡ written_lists slots
unfolding written_lists
hold_written lists slots hold =
    let sound = hold.full.sound in
    let lengths : lengths_of lists.offsets ≡ map length (values_of slots) = lengths_are lists sound ∙ ap (λ (ss : List Slot). map length (values_of ss)) hold.slots_are in
    let offsets : lists.offsets ≡ extended (pos 0 ∷ []) (map length (values_of slots)) = from_zero_on lists.offsets sound.sound hold.starts ∙ ap (extended (pos 0 ∷ [])) lengths in
    let flags : frozen_flags lists.flags ≡ kept_flags (map (λ (slot : Slot). slot.valid) slots) =
    frozen_kept lists.flags (slot_count lists)
    ∙ ap kept_flags (sym (valid_are lists sound) ∙ ap (map (λ (slot : Slot). slot.valid)) hold.slots_are) in
    ap (λ (ns : List ℤ). offset_lists ns lists.values (frozen_flags lists.flags)) offsets
    ∙ ap (λ (bytes : List ℕ). offset_lists (extended (pos 0 ∷ []) (map length (values_of slots))) bytes (frozen_flags lists.flags)) (values_held lists slots hold)
    ∙ ap (offset_lists (extended (pos 0 ∷ []) (map length (values_of slots))) (concat (values_of slots))) flags

-- ---- what written lists mean

-- the lists of one slot
alone : Slot → OffsetLists
alone slot = offset_lists (pos 0 ∷ pos (length slot.bytes) ∷ []) slot.bytes (Some (slot.valid ∷ []))

rises_once : (n i : ℕ) → i + 1 < 2 → offset_at (pos 0 ∷ pos n ∷ []) i ≤ℤ offset_at (pos 0 ∷ pos n ∷ []) (i + 1)
rises_once n zero within = omega (arith, ints)
rises_once n (suc i) within = absurd (omega arith)

full_alone : (slot : Slot) → AreFullLists (alone slot)
unfolding alone
full_alone slot = record {
  sound = record {
    sound = record { not_empty = omega arith; starts = omega (arith, ints); never_falls = rises_once (length slot.bytes) };
    within = omega (arith, ints);
    flagged = refl;
  };
  full = refl;
}

slots_alone : (slot : Slot) → offset_slots (alone slot) ≡ slot ∷ []
unfolding alone offset_slots flagged_slots
slots_alone slot = ap (λ (bytes : List ℕ). record { valid = slot.valid; bytes = bytes } ∷ []) (range_all slot.bytes)

starts_joined : (lists others : OffsetLists) (offsets : List ℤ) → lists.offsets ≡ offsets → 0 < length offsets → offset_at (joined_lists lists others).offsets 0 ≡ offset_at offsets 0
unfolding joined_lists
starts_joined lists others [] is some = absurd (omega arith)
starts_joined lists others (first ∷ rest) is some =
    ap (λ (offsets : List ℤ). offset_at (extended offsets (lengths_of others.offsets)) 0) is ∙ starts-extended first rest (lengths_of others.offsets)

hold_one : (lists : OffsetLists) (slots : List Slot) (slot : Slot) → HoldSlots lists slots → HoldSlots (joined_lists lists (alone slot)) (slots ++ slot ∷ [])
hold_one lists slots slot hold = record {
  full = full_joined lists (alone slot) hold.full (full_alone slot);
  starts = starts_joined lists (alone slot) lists.offsets refl hold.full.sound.sound.not_empty ∙ hold.starts;
  slots_are =
      slots-joined lists (alone slot) hold.full (full_alone slot)
      ∙ ap (λ (front : List Slot). front ++ offset_slots (alone slot)) hold.slots_are
      ∙ ap (λ (back : List Slot). slots ++ back) (slots_alone slot);
}

some_hold : (front slots : List Slot) (lists : OffsetLists) → HoldSlots lists front → (held : OffsetLists) × HoldSlots held (front ++ slots)
some_hold front [] lists hold = (lists, subst (HoldSlots lists) (sym (append-nil front)) hold)
some_hold front (slot ∷ slots) lists hold =
    let rest = some_hold (front ++ slot ∷ []) slots (joined_lists lists (alone slot)) (hold_one lists front slot hold) in
    (rest.0, subst (HoldSlots rest.0) (append_assoc front (slot ∷ []) slots) rest.1)

pub written_mean : (slots : List Slot) → offset_slots (written_lists slots) ≡ slots
written_mean slots =
    let held = some_hold [] slots no_slots hold_none in
    ap offset_slots (sym (hold_written held.0 slots held.1)) ∙ slots-frozen held.0 held.1.full.sound ∙ held.1.slots_are

-- ---- texts

pub both_hold : (a b : Bool) → (a && b) ≡ true → (a ≡ true) × (b ≡ true)
both_hold true true both = (refl, refl)
both_hold true false both = absurd (cc)
both_hold false b both = absurd (cc)

one_text : (valid : Bool) (bytes : List ℕ) → is_well_formed_utf8 bytes ≡ true → is_well_formed_utf8 (slot_of (row_of (record { valid = valid; bytes = bytes }))).bytes ≡ true
one_text true bytes text = text
one_text false bytes text = refl

pub written_texts : (slots : List Slot) → are_well_formed_utf8 (values_of slots) ≡ true → are_well_formed_utf8 (values_of (written_slots slots)) ≡ true
written_texts [] texts = refl
written_texts (slot ∷ slots) texts =
    let both = both_hold (is_well_formed_utf8 slot.bytes) (are_well_formed_utf8 (values_of slots)) texts in
    rw (one_text slot.valid slot.bytes both.0, written_texts slots both.1) refl

-- slots of texts, and after them those of rows that are texts
pub row_texts : (slots : List Slot) (rows : List (Option (List ℕ))) → are_well_formed_utf8 (values_of slots) ≡ true → are_well_formed_utf8 (given_rows rows) ≡ true → are_well_formed_utf8 (values_of (slots ++ map slot_of rows)) ≡ true
row_texts [] [] texts given = refl
row_texts [] (None ∷ rows) texts given = row_texts [] rows texts given
row_texts [] (Some bytes ∷ rows) texts given =
    let both = both_hold (is_well_formed_utf8 bytes) (are_well_formed_utf8 (given_rows rows)) given in
    rw (both.0, row_texts [] rows texts both.1) refl
row_texts (slot ∷ slots) rows texts given =
    let both = both_hold (is_well_formed_utf8 slot.bytes) (are_well_formed_utf8 (values_of slots)) texts in
    rw (both.0, row_texts slots rows both.1 given) refl

-- ---- room

pub room_none : (greatest : ℕ) (slots : List Slot) → bytes_in slots ≤ greatest → bytes_fault (Some greatest) slots ≡ None
room_none greatest slots within = let test : nat_lt greatest (bytes_in slots) ≡ false = grind (arith, nat_tests) in rw test refl

pub room_some : (greatest : ℕ) (slots : List Slot) → greatest < bytes_in slots → bytes_fault (Some greatest) slots ≡ Some Overflow
room_some greatest slots past = let test : nat_lt greatest (bytes_in slots) ≡ true = grind (arith, nat_tests) in rw test refl

pub room_within : (greatest : ℕ) (slots : List Slot) → bytes_fault (Some greatest) slots ≡ None → bytes_in slots ≤ greatest
room_within greatest slots none = let test : nat_lt greatest (bytes_in slots) ≡ false = cause_none _ Overflow none in grind (arith, nat_tests)

-- ---- what loops over slots and rows keep

written-last : (slots : List Slot) (slot : Slot) → bytes_in (written_slots (slots ++ slot ∷ [])) ≡ bytes_in (written_slots slots) + length (slot_of (row_of slot)).bytes
written-last [] slot = let all = bytes_in-cons (slot_of (row_of slot)) [] in omega arith
written-last (first ∷ slots) slot =
    let all = bytes_in-cons (slot_of (row_of first)) (written_slots (slots ++ slot ∷ [])) in
    let front = bytes_in-cons (slot_of (row_of first)) (written_slots slots) in
    let rest = written-last slots slot in
    omega arith

-- a number of bytes: those that are written of the first i slots, and all of the others
abbrev pub Counts : List Slot → ℕ → ℕ → Type 0
Counts slots i bytes = bytes ≡ bytes_in (written_slots (take i slots)) + bytes_in (drop i slots)

one_more : (slots : List Slot) (i : ℕ) → i < length slots
    → (bytes_in (written_slots (take (i + 1) slots)) ≡ bytes_in (written_slots (take i slots)) + length (slot_of (row_of (slot_at slots i))).bytes)
    × (bytes_in (drop i slots) ≡ length (slot_at slots i).bytes + bytes_in (drop (i + 1) slots))
one_more slots i within =
    let d : Slot = record { valid = true; bytes = [] } in (
      ap (λ (ss : List Slot). bytes_in (written_slots ss)) (take_more slots i d within) ∙ written-last (take i slots) (slot_at slots i),
      ap bytes_in (drop_more slots i d within) ∙ bytes_in-cons (slot_at slots i) (drop (i + 1) slots),
    )

valid_length : (valid : Bool) (bytes : List ℕ) → valid ≡ true → length (slot_of (row_of (record { valid = valid; bytes = bytes }))).bytes ≡ length bytes
valid_length true bytes is = refl
valid_length false bytes is = absurd (cc)

null_length : (valid : Bool) (bytes : List ℕ) → valid ≡ false → length (slot_of (row_of (record { valid = valid; bytes = bytes }))).bytes ≡ 0
null_length true bytes is = absurd (cc)
null_length false bytes is = refl

pub counts_start : (slots : List Slot) (bytes : ℕ) → bytes ≡ bytes_in slots → Counts slots 0 bytes
counts_start slots bytes is = omega arith

pub counts_valid : (slots : List Slot) (i bytes : ℕ) → i < length slots → (slot_at slots i).valid ≡ true → Counts slots i bytes → Counts slots (i + 1) bytes
counts_valid slots i bytes within valid counts =
    let more = one_more slots i within in
    let own = valid_length (slot_at slots i).valid (slot_at slots i).bytes valid in
    omega (arith, counts, more.0, more.1)

pub counts_null : (slots : List Slot) (i bytes : ℕ) → i < length slots → (slot_at slots i).valid ≡ false → Counts slots i bytes → (length (slot_at slots i).bytes ≤ bytes) × Counts slots (i + 1) (bytes - length (slot_at slots i).bytes)
counts_null slots i bytes within null counts =
    let more = one_more slots i within in
    let own = null_length (slot_at slots i).valid (slot_at slots i).bytes null in
    (omega (arith, counts, more.0, more.1), omega (arith, counts, more.0, more.1))

pub counts_end : (slots : List Slot) (i bytes : ℕ) → length slots ≤ i → Counts slots i bytes → bytes ≡ bytes_in (written_slots slots)
counts_end slots i bytes past counts =
    let all : take i slots ≡ slots = take_all i slots past in
    let none : drop i slots ≡ [] = at_drop_all (λ (ss : List Slot). ss) slots i past in
    let front : bytes_in (written_slots (take i slots)) ≡ bytes_in (written_slots slots) = ap (λ (ss : List Slot). bytes_in (written_slots ss)) all in
    let back : bytes_in (drop i slots) ≡ 0 = ap bytes_in none in
    omega (arith, counts, front, back)

no_null : (valid : Bool) (bytes : List ℕ) (slots : List Slot) → count_by (λ (slot : Slot). not slot.valid) slots ≡ 0 → valid ≡ true → written_slots slots ≡ slots → written_slots (record { valid = valid; bytes = bytes } ∷ slots) ≡ record { valid = valid; bytes = bytes } ∷ slots
no_null true bytes slots none valid rest = ap (λ (ss : List Slot). record { valid = true; bytes = bytes } ∷ ss) rest
no_null false bytes slots none valid rest = absurd (cc)

first_valid : (valid : Bool) (bytes : List ℕ) (slots : List Slot) → count_by (λ (slot : Slot). not slot.valid) (record { valid = valid; bytes = bytes } ∷ slots) ≡ 0 → (valid ≡ true) × (count_by (λ (slot : Slot). not slot.valid) slots ≡ 0)
first_valid true bytes slots none = (refl, let all = sum_by-cons (λ (slot : Slot). cond (not slot.valid) 1 0) (record { valid = true; bytes = bytes }) slots in omega arith)
first_valid false bytes slots none = absurd (let all = sum_by-cons (λ (slot : Slot). cond (not slot.valid) 1 0) (record { valid = false; bytes = bytes }) slots in omega arith)

-- without a null slot
pub no_nulls : (slots : List Slot) → count_by (λ (slot : Slot). not slot.valid) slots ≡ 0 → written_slots slots ≡ slots
no_nulls [] none = refl
no_nulls (slot ∷ slots) none =
    let both = first_valid slot.valid slot.bytes slots none in
    no_null slot.valid slot.bytes slots both.1 both.0 (no_nulls slots both.1)

-- the rows from i on are texts exactly where all are
abbrev pub AreLeft : List (Option (List ℕ)) → ℕ → Type 0
AreLeft rows i = are_well_formed_utf8 (given_rows (drop i rows)) ≡ are_well_formed_utf8 (given_rows rows)

given-cons : (row : Option (List ℕ)) (rows : List (Option (List ℕ))) (bytes : List ℕ) → row ≡ Some bytes → given_rows (row ∷ rows) ≡ bytes ∷ given_rows rows
given-cons None rows bytes is = absurd (cc)
given-cons (Some own) rows bytes is = ap (λ (r : Option (List ℕ)). given_rows (r ∷ rows)) is

given-missing : (row : Option (List ℕ)) (rows : List (Option (List ℕ))) → row ≡ None → given_rows (row ∷ rows) ≡ given_rows rows
given-missing row rows is = ap (λ (r : Option (List ℕ)). given_rows (r ∷ rows)) is

pub texts_start : (rows : List (Option (List ℕ))) → AreLeft rows 0
texts_start rows = refl

pub texts_missing : (rows : List (Option (List ℕ))) (i : ℕ) → i < length rows → slice_index_or rows i None ≡ None → AreLeft rows i → AreLeft rows (i + 1)
texts_missing rows i within none left =
    sym (ap are_well_formed_utf8 (ap given_rows (drop_more rows i None within) ∙ given-missing (slice_index_or rows i None) (drop (i + 1) rows) none)) ∙ left

text_next : (rows : List (Option (List ℕ))) (i : ℕ) (bytes : List ℕ) → i < length rows → slice_index_or rows i None ≡ Some bytes → are_well_formed_utf8 (given_rows (drop i rows)) ≡ (is_well_formed_utf8 bytes && are_well_formed_utf8 (given_rows (drop (i + 1) rows)))
text_next rows i bytes within given = ap are_well_formed_utf8 (ap given_rows (drop_more rows i None within) ∙ given-cons (slice_index_or rows i None) (drop (i + 1) rows) bytes given)

pub texts_given : (rows : List (Option (List ℕ))) (i : ℕ) (bytes : List ℕ) → i < length rows → slice_index_or rows i None ≡ Some bytes → is_well_formed_utf8 bytes ≡ true → AreLeft rows i → AreLeft rows (i + 1)
texts_given rows i bytes within given text left =
    let next = text_next rows i bytes within given in
    let own : (is_well_formed_utf8 bytes && are_well_formed_utf8 (given_rows (drop (i + 1) rows))) ≡ are_well_formed_utf8 (given_rows (drop (i + 1) rows)) = ap (λ (t : Bool). t && are_well_formed_utf8 (given_rows (drop (i + 1) rows))) text in
    sym own ∙ sym next ∙ left

pub texts_refused : (rows : List (Option (List ℕ))) (i : ℕ) (bytes : List ℕ) → i < length rows → slice_index_or rows i None ≡ Some bytes → is_well_formed_utf8 bytes ≡ false → AreLeft rows i → false ≡ are_well_formed_utf8 (given_rows rows)
texts_refused rows i bytes within given none left =
    let next = text_next rows i bytes within given in
    let own : (is_well_formed_utf8 bytes && are_well_formed_utf8 (given_rows (drop (i + 1) rows))) ≡ false = ap (λ (t : Bool). t && are_well_formed_utf8 (given_rows (drop (i + 1) rows))) none in
    sym own ∙ sym next ∙ left

pub texts_end : (rows : List (Option (List ℕ))) (i : ℕ) → length rows ≤ i → AreLeft rows i → true ≡ are_well_formed_utf8 (given_rows rows)
texts_end rows i past left = sym (at_drop_all (λ (rs : List (Option (List ℕ))). are_well_formed_utf8 (given_rows rs)) rows i past) ∙ left

-- lists of texts
pub parts_are : (new : OffsetLists) (offsets : List ℤ) (values : List ℕ) (flags : Option (List Bool)) → offsets ≡ new.offsets → values ≡ new.values → flags ≡ new.flags → offset_lists offsets values flags ≡ new
parts_are new offsets values flags first second third =
    ap (λ (ns : List ℤ). offset_lists ns values flags) first
    ∙ ap (λ (bytes : List ℕ). offset_lists new.offsets bytes flags) second
    ∙ ap (offset_lists new.offsets new.values) third

pub texts_sound : (new lists : OffsetLists) (slots : List Slot) → lists ≡ new → AreSoundLists lists → new ≡ written_lists slots → are_well_formed_utf8 (values_of slots) ≡ true → AreSoundTexts lists
texts_sound new lists slots same sound is texts = record {
  sound = sound;
  texts = ap (λ (ss : List Slot). are_well_formed_utf8 (values_of ss)) (ap offset_slots (same ∙ is) ∙ written_mean slots) ∙ texts;
}

-- ---- errors

pub no_error : {X : Type 0} (error : PolarsError) (fault : Option Cause) (P : X → Type 0) → Gives {X = X} (Err error) fault P → fault ≡ None → ⊥
no_error (ComputeError cause) fault P given none = let some = given.0 in absurd (cc)
no_error (OutOfBounds cause) fault P given none = let some = given.0 in absurd (cc)
no_error NoMemory fault P given none = given

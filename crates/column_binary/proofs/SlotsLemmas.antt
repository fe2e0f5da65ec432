-- Laws of slots with offsets: the values of a part are a part of the values, and what follows of flags beside them.
use Rattle.std.proofs.Common.{◌≡◌, ◌↔◌, ℕ, zero, suc, ◌+◌, ◌-◌, ◌<◌, ◌≤◌, ◌≤ℤ◌, ℤ, pos, false, not, List, [], ◌∷◌, ◌++◌, length, take, drop, get_or, slice_range, Option, None, refl, sym, ◌∙◌, ap, subst, arith, count_by}
use Rattle.std.specs.Prelude.{int_lt}
use Rattle.std.specs.List.{filter_map}
use Rattle.std.proofs.lemmas.Int.{ints}
use Rattle.column_base.specs.declared.errors.Cause.{Cause}
use Rattle.column_base.specs.declared.errors.Cause.TheVariants.{OffsetsExceedValues}
use Rattle.column_base.specs.Answers.{cause_if, ◌or_else◌}
use Rattle.column_base.specs.Kinds.{Slot}
use Rattle.column_base.specs.Lists.{sublist}
use Rattle.column_base.specs.Slots.{slot_at, values_of, row_of, rows_of}
use Rattle.column_base.proofs.AnswersLemmas.{cause_none, first_none}
use Rattle.column_base.proofs.ListsLemmas.{length-sublist, sublist-sublist}
use Rattle.column_storage.specs.Bits.{flags_of, sliced_flags, given_bits, optional_values, valid_values}
use Rattle.column_storage.specs.Slots.{flagged_slots}
use Rattle.column_storage.specs.Validity.{AreFlagsOf, flags_fault, is_valid_at}
use Rattle.column_storage.proofs.FlagsLemmas as flags
use Rattle.column_storage.proofs.SlotsLemmas as storage
use Rattle.column_offset.specs.Offsets.{AreSoundOffsets, last_of, offset_at, nat_of, bounds_fault}
use Rattle.column_offset.specs.Text.{pieces}
use Rattle.column_offset.proofs.OffsetsLemmas.{in_order, offset_at-sublist, sound_sublist}
use Rattle.column_binary.specs.Slots.{OffsetLists, offset_lists, slot_count, offset_slots, array_fault, AreSoundLists, sliced_lists, IsPart}

-- ---- pieces

pub length-pieces : (ns : List ℤ) (vs : List ℕ) → length (pieces ns vs) ≡ length ns - 1
length-pieces [] vs = refl
length-pieces (a ∷ []) vs = refl
length-pieces (a ∷ b ∷ ns) vs = ap suc (length-pieces (b ∷ ns) vs) ∙ omega arith

pieces-take : (ns : List ℤ) (vs : List ℕ) (k : ℕ) → pieces (take (suc k) ns) vs ≡ take k (pieces ns vs)
pieces-take [] vs zero = refl
pieces-take [] vs (suc k) = refl
pieces-take (a ∷ []) vs zero = refl
pieces-take (a ∷ []) vs (suc k) = refl
pieces-take (a ∷ b ∷ ns) vs zero = refl
pieces-take (a ∷ b ∷ ns) vs (suc k) = ap (λ ps. slice_range vs (nat_of a) (nat_of b) ∷ ps) (pieces-take (b ∷ ns) vs k)

pieces-drop : (ns : List ℤ) (vs : List ℕ) (f : ℕ) → pieces (drop f ns) vs ≡ drop f (pieces ns vs)
pieces-drop ns vs zero = refl
pieces-drop [] vs (suc f) = refl
pieces-drop (a ∷ []) vs (suc zero) = refl
pieces-drop (a ∷ []) vs (suc (suc f)) = refl
pieces-drop (a ∷ b ∷ ns) vs (suc f) = pieces-drop (b ∷ ns) vs f

pub pieces-sublist : (ns : List ℤ) (vs : List ℕ) (f k : ℕ) → pieces (sublist ns f (k + 1)) vs ≡ sublist (pieces ns vs) f k
pieces-sublist ns vs f k =
    let e : k + 1 ≡ suc k = omega arith in
    ap (λ n. pieces (take n (drop f ns)) vs) e
    ∙ pieces-take (drop f ns) vs k
    ∙ ap (take k) (pieces-drop ns vs f)

pieces_at : (ns : List ℤ) (vs : List ℕ) (i : ℕ) → i + 1 < length ns → get_or (pieces ns vs) i [] ≡ slice_range vs (nat_of (offset_at ns i)) (nat_of (offset_at ns (i + 1)))
pieces_at [] vs i within = absurd (omega arith)
pieces_at (a ∷ []) vs i within = absurd (omega arith)
pieces_at (a ∷ b ∷ ns) vs zero within = refl
pieces_at (a ∷ b ∷ ns) vs (suc i) within = let e : suc i + 1 ≡ suc (i + 1) = omega arith in rw e (pieces_at (b ∷ ns) vs i (omega arith))

-- ---- sound lists

-- flags that are given are as many as the values
pub flagged : (lists : OffsetLists) → AreSoundLists lists → AreFlagsOf (length (pieces lists.offsets lists.values)) lists.flags
flagged lists sound = subst (λ (n : ℕ). AreFlagsOf n lists.flags) (sym (length-pieces lists.offsets lists.values)) sound.flagged

-- n slots from a place on are n values from there on
within_pieces : (lists : OffsetLists) (end : ℕ) → end ≤ slot_count lists → end ≤ length (pieces lists.offsets lists.values)
within_pieces lists end within = let count = length-pieces lists.offsets lists.values in omega arith

pub length-offset_slots : (lists : OffsetLists) → AreSoundLists lists → length (offset_slots lists) ≡ slot_count lists
unfolding offset_slots
length-offset_slots lists sound =
    storage.length-flagged_slots lists.flags (pieces lists.offsets lists.values) (flagged lists sound) ∙ length-pieces lists.offsets lists.values

pub values_of-offset_slots : (lists : OffsetLists) → AreSoundLists lists → values_of (offset_slots lists) ≡ pieces lists.offsets lists.values
unfolding offset_slots
values_of-offset_slots lists sound = storage.values_of-flagged_slots lists.flags (pieces lists.offsets lists.values) (flagged lists sound)

-- ---- slices

pub offset_slots-sliced : (lists : OffsetLists) (from n : ℕ) → AreSoundLists lists → from + n ≤ slot_count lists → offset_slots (sliced_lists lists from n) ≡ sublist (offset_slots lists) from n
unfolding offset_slots sliced_lists
offset_slots-sliced lists from n sound within =
    ap (flagged_slots (sliced_flags lists.flags from n)) (pieces-sublist lists.offsets lists.values from n)
    ∙ storage.flagged_slots-sliced lists.flags (pieces lists.offsets lists.values) from n (flagged lists sound) (within_pieces lists (from + n) within)

-- a part has as many slots as it is asked for
pub slot_count-sliced : (lists : OffsetLists) (from n : ℕ) → AreSoundLists lists → from + n ≤ slot_count lists → slot_count (sliced_lists lists from n) ≡ n
unfolding sliced_lists
slot_count-sliced lists from n sound within =
    let some = sound.sound.not_empty in
    let size = length-sublist lists.offsets from (n + 1) (omega arith) in
    omega arith

-- the last of some offsets in a row is at most the last of all
last_of-sublist : (ns : List ℤ) (f k : ℕ) → AreSoundOffsets ns → f + k < length ns → last_of (sublist ns f (k + 1)) ≤ℤ last_of ns
last_of-sublist ns f k sound within =
    let size = length-sublist ns f (k + 1) (omega arith) in
    let place : length (sublist ns f (k + 1)) - 1 ≡ k = omega arith in
    let rest = length ns - 1 - (f + k) in
    let end : f + k + rest ≡ length ns - 1 = omega arith in
    let is : last_of (sublist ns f (k + 1)) ≡ offset_at ns (f + k) =
    ap (offset_at (sublist ns f (k + 1))) place ∙ offset_at-sublist ns f (k + 1) k (omega arith) in
    subst (λ (n : ℤ). n ≤ℤ last_of ns) (sym is)
    (subst (λ (i : ℕ). offset_at ns (f + k) ≤ℤ offset_at ns i) end (in_order sound (f + k) rest (omega arith)))

pub AreSoundLists-sliced : (lists : OffsetLists) (from n : ℕ) → AreSoundLists lists → from + n ≤ slot_count lists → AreSoundLists (sliced_lists lists from n)
unfolding sliced_lists
AreSoundLists-sliced lists from n sound within =
    let some = sound.sound.not_empty in
    let last = last_of-sublist lists.offsets from n sound.sound (omega arith) in
    let bound : last_of lists.offsets ≤ℤ pos (length lists.values) = sound.within in
    let size : length (sublist lists.offsets from (n + 1)) ≡ n + 1 = length-sublist lists.offsets from (n + 1) (omega arith) in
    let count : length (sublist lists.offsets from (n + 1)) - 1 ≡ n = omega arith in
    record {
      sound = sound_sublist lists.offsets from (n + 1) sound.sound (omega arith) (omega arith);
      within = omega (arith, ints);
      flagged = subst (λ (m : ℕ). AreFlagsOf m (sliced_flags lists.flags from n)) (sym count) (flags.length-sliced_flags lists.flags (slot_count lists) from n sound.flagged within);
    }

pub part_is : (lists : OffsetLists) (from n : ℕ) → AreSoundLists lists → from + n ≤ slot_count lists → IsPart lists from n (sliced_lists lists from n)
part_is lists from n sound within = record {
  part = refl;
  slots = offset_slots-sliced lists from n sound within;
  count = slot_count-sliced lists from n sound within;
  sound = AreSoundLists-sliced lists from n sound within;
}

-- ---- a slot at a place

pub bytes_at : (lists : OffsetLists) (i : ℕ) → AreSoundLists lists → i < slot_count lists → (slot_at (offset_slots lists) i).bytes ≡ slice_range lists.values (nat_of (offset_at lists.offsets i)) (nat_of (offset_at lists.offsets (i + 1)))
unfolding offset_slots
bytes_at lists i sound within =
    let count = length-pieces lists.offsets lists.values in
    storage.bytes-flagged_slots lists.flags (pieces lists.offsets lists.values) i (flagged lists sound) (omega arith)
    ∙ pieces_at lists.offsets lists.values i (omega arith)

pub valid_at : (lists : OffsetLists) (i : ℕ) → AreSoundLists lists → i < slot_count lists → (slot_at (offset_slots lists) i).valid ≡ is_valid_at lists.flags i
unfolding offset_slots
valid_at lists i sound within =
    let count = length-pieces lists.offsets lists.values in
    storage.valid-flagged_slots lists.flags (pieces lists.offsets lists.values) i (flagged lists sound) (omega arith)

-- ---- rows and null slots

pub rows_are : (lists : OffsetLists) → AreSoundLists lists → optional_values (given_bits lists.flags) (values_of (offset_slots lists)) ≡ rows_of (offset_slots lists)
unfolding offset_slots
rows_are lists sound =
    ap (optional_values (given_bits lists.flags)) (values_of-offset_slots lists sound)
    ∙ sym (storage.rows_of-flagged_slots lists.flags (pieces lists.offsets lists.values) (flagged lists sound))

pub valid_are : (lists : OffsetLists) → AreSoundLists lists → valid_values (flags_of (slot_count lists) lists.flags) (values_of (offset_slots lists)) ≡ filter_map row_of (offset_slots lists)
unfolding offset_slots
valid_are lists sound =
    ap (valid_values (flags_of (slot_count lists) lists.flags)) (values_of-offset_slots lists sound)
    ∙ ap (λ (n : ℕ). valid_values (flags_of n lists.flags) (pieces lists.offsets lists.values)) (sym (length-pieces lists.offsets lists.values))
    ∙ sym (storage.valid_rows-flagged_slots lists.flags (pieces lists.offsets lists.values) (flagged lists sound))

pub null_slots_are : (lists : OffsetLists) → AreSoundLists lists → count_by not (given_bits lists.flags) ≡ count_by (λ (slot : Slot). not slot.valid) (offset_slots lists)
unfolding offset_slots
null_slots_are lists sound = sym (storage.nulls-flagged_slots lists.flags (pieces lists.offsets lists.values) (flagged lists sound))

-- ---- lists without a fault

within_of : (last : ℤ) (count : ℕ) → cause_if (int_lt (pos count) last) OffsetsExceedValues ≡ None → last ≤ℤ pos count
within_of last count none = let test : int_lt (pos count) last ≡ false = cause_none _ OffsetsExceedValues none in grind (arith, ints)

pub bounded : (last : ℤ) (count : ℕ) → last ≤ℤ pos count → cause_if (int_lt (pos count) last) OffsetsExceedValues ≡ None
bounded last count within = let test : int_lt (pos count) last ≡ false = grind (arith, ints) in rw test refl

pub sound_where_fine : (lists : OffsetLists) → AreSoundOffsets lists.offsets → array_fault lists ≡ None → AreSoundLists lists
sound_where_fine lists sound none =
    let parts = first_none (bounds_fault lists.offsets (length lists.values)) (flags_fault (slot_count lists) lists.flags) none in
    record {
      sound = sound;
      within = within_of (last_of lists.offsets) (length lists.values) parts.0;
      flagged = (flags.no_flags_fault (slot_count lists) lists.flags).0 parts.1;
    }

pub fine_where_sound : (lists : OffsetLists) → AreSoundLists lists → array_fault lists ≡ None
fine_where_sound lists sound =
    ap (λ (first : Option Cause). first or_else flags_fault (slot_count lists) lists.flags) (bounded (last_of lists.offsets) (length lists.values) sound.within)
    ∙ (flags.no_flags_fault (slot_count lists) lists.flags).1 sound.flagged

pub no_fault_is_sound : (lists : OffsetLists) → AreSoundOffsets lists.offsets → (array_fault lists ≡ None) ↔ AreSoundLists lists
no_fault_is_sound lists sound = (sound_where_fine lists sound, fine_where_sound lists)

-- ---- what the slots are

pub offsets_are : (lists : OffsetLists) → AreSoundLists lists → length lists.offsets ≡ slot_count lists + 1
offsets_are lists sound = let some = sound.sound.not_empty in omega arith

pub flags_are : (lists : OffsetLists) → AreSoundLists lists → length (flags_of (slot_count lists) lists.flags) ≡ slot_count lists
flags_are lists sound = flags.length-flags_of lists.flags (slot_count lists) sound.flagged

pub same_slots : (a b : OffsetLists) → a.offsets ≡ b.offsets → a.values ≡ b.values → flags_of (slot_count a) a.flags ≡ flags_of (slot_count b) b.flags → offset_slots a ≡ offset_slots b
unfolding offset_slots
same_slots a b offsets values same =
    let count = length-pieces a.offsets a.values in
    let counts : slot_count a ≡ slot_count b = ap (λ (ns : List ℤ). length ns - 1) offsets in
    let flags : flags_of (length (pieces a.offsets a.values)) a.flags ≡ flags_of (length (pieces a.offsets a.values)) b.flags =
    ap (λ (n : ℕ). flags_of n a.flags) count ∙ same ∙ ap (λ (n : ℕ). flags_of n b.flags) (sym (count ∙ counts)) in
    storage.flagged_slots-same a.flags b.flags (pieces a.offsets a.values) flags
    ∙ ap (λ (ns : List ℤ). flagged_slots b.flags (pieces ns a.values)) offsets
    ∙ ap (λ (vs : List ℕ). flagged_slots b.flags (pieces b.offsets vs)) values

-- ---- the law of slices

pub flags-sliced : (lists : OffsetLists) (from n : ℕ) → AreSoundLists lists → from + n ≤ slot_count lists → flags_of n (sliced_lists lists from n).flags ≡ sublist (flags_of (slot_count lists) lists.flags) from n
unfolding sliced_lists
flags-sliced lists from n sound within = flags.flags_of-sliced lists.flags (slot_count lists) from n sound.flagged within

pub slot_of_slice : (lists : OffsetLists) (from n i : ℕ) → AreSoundLists lists → from + n ≤ slot_count lists → i < n → slot_at (offset_slots (sliced_lists lists from n)) i ≡ slot_at (offset_slots lists) (from + i)
slot_of_slice lists from n i sound within inside =
    ap (λ (slots : List Slot). slot_at slots i) (offset_slots-sliced lists from n sound within)
    ∙ storage.slot_at-sublist (offset_slots lists) from n i inside

pub slices_are_one : (lists : OffsetLists) (from n start m : ℕ) → AreSoundLists lists → from + n ≤ slot_count lists → start + m ≤ n → sliced_lists (sliced_lists lists from n) start m ≡ sliced_lists lists (from + start) m
unfolding sliced_lists
slices_are_one lists from n start m sound within inside =
    ap (λ (offsets : List ℤ). offset_lists offsets lists.values (sliced_flags (sliced_flags lists.flags from n) start m)) (sublist-sublist lists.offsets from (n + 1) start (m + 1) (omega arith))
    ∙ ap (offset_lists (sublist lists.offsets (from + start) (m + 1)) lists.values) (flags.sliced_flags-sliced lists.flags (slot_count lists) from n start m sound.flagged within inside)

pub split_is_whole : (lists : OffsetLists) (place : ℕ) → AreSoundLists lists → place ≤ slot_count lists → offset_slots (sliced_lists lists 0 place) ++ offset_slots (sliced_lists lists place (slot_count lists - place)) ≡ offset_slots lists
split_is_whole lists place sound within =
    let back = slot_count lists - place in
    let count = length-offset_slots lists sound in
    ap (λ (front : List Slot). front ++ offset_slots (sliced_lists lists place back)) (offset_slots-sliced lists 0 place sound (omega arith))
    ∙ ap (λ (rest : List Slot). sublist (offset_slots lists) 0 place ++ rest) (offset_slots-sliced lists place back sound (omega arith))
    ∙ storage.front_and_back (offset_slots lists) place back (omega arith)

pub ruleset slices = (AreSoundLists-sliced, part_is)

pub ruleset places = (bytes_at, valid_at)

pub ruleset counts = (length-offset_slots, null_slots_are)

pub ruleset values = (length-offset_slots, storage.length-values_of, storage.value_at, rows_are, valid_are)

pub ruleset fine = (sound_where_fine)

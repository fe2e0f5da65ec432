-- Laws of slots of one width, of sound lists, and of their parts.
use Rattle.std.proofs.Common.{◌≡◌, ℕ, zero, suc, ◌+◌, ◌-◌, ◌*◌, ◌/◌, ◌%◌, ◌<◌, ◌≤◌, Bool, true, false, not, List, [], ◌∷◌, ◌++◌, length, map, take, drop, replicate, count_by, ◌==◌, Option, Some, None, ◌↔◌, refl, sym, ◌∙◌, ap, subst, arith}
use Rattle.std.specs.List.{filter_map}
use Rattle.std.specs.Simd.{first_chunks}
use Rattle.std.proofs.Math.Nat.{mul-div_cancel, div-mul-le_self}
use Rattle.std.proofs.lemmas.List.{length-replicate}
use Rattle.std.proofs.lemmas.Nat.{mul-le, row_fits, div-add-mod'}
use Rattle.std.proofs.lemmas.Bool.Decides.{nat_tests}
use Rattle.column_base.specs.declared.errors.Cause.{Cause}
use Rattle.column_base.specs.declared.errors.Cause.TheVariants.{SizeZero, NotMultiple}
use Rattle.column_base.specs.Answers.{cause_if, ◌or_else◌}
use Rattle.column_base.specs.Kinds.{Slot}
use Rattle.column_base.specs.Lists.{sublist}
use Rattle.column_base.specs.Slots.{slot_at, values_of, row_of, rows_of}
use Rattle.column_base.proofs.AnswersLemmas.{cause_none, first_none}
use Rattle.column_base.proofs.ListsLemmas.{length-sublist, sublist-sublist}
use Rattle.column_storage.specs.Bits.{flags_of, sliced_flags, given_bits, optional_values, valid_values}
use Rattle.column_storage.specs.Slots.{flagged_slots}
use Rattle.column_storage.specs.Validity.{AreFlagsOf, flags_fault, is_valid_at}
use Rattle.column_storage.proofs.FlagsLemmas as flags
use Rattle.column_storage.proofs.SlotsLemmas as storage
use Rattle.column_fixed.specs.Slots.{FixedLists, fixed_lists, fixed_count, fixed_slots, width_fault, fixed_fault, AreSoundFixed, sliced_fixed, IsPart}
use Rattle.column_fixed.proofs.ChunksLemmas.{length-chunks, chunks-sublist, chunk_at}

-- the pieces that the value bytes are cut into
abbrev cut : FixedLists → List (List ℕ)
cut lists = first_chunks lists.width (fixed_count lists) lists.values

-- ---- sound lists

pub length-cut : (lists : FixedLists) → length (first_chunks lists.width (fixed_count lists) lists.values) ≡ fixed_count lists
length-cut lists = length-chunks lists.width (fixed_count lists) lists.values

-- flags that are given are as many as the pieces
pub flagged : (lists : FixedLists) → AreSoundFixed lists → AreFlagsOf (length (first_chunks lists.width (fixed_count lists) lists.values)) lists.flags
flagged lists sound = subst (λ (n : ℕ). AreFlagsOf n lists.flags) (sym (length-cut lists)) sound.flagged

pub length-fixed_slots : (lists : FixedLists) → AreSoundFixed lists → length (fixed_slots lists) ≡ fixed_count lists
unfolding fixed_slots
length-fixed_slots lists sound = storage.length-flagged_slots lists.flags (cut lists) (flagged lists sound) ∙ length-cut lists

pub values_of-fixed_slots : (lists : FixedLists) → AreSoundFixed lists → values_of (fixed_slots lists) ≡ first_chunks lists.width (fixed_count lists) lists.values
unfolding fixed_slots
values_of-fixed_slots lists sound = storage.values_of-flagged_slots lists.flags (cut lists) (flagged lists sound)

-- ---- numbers of bytes

-- slots up to a place within the count lie within the bytes
pub bytes_within : (lists : FixedLists) (n : ℕ) → AreSoundFixed lists → n ≤ fixed_count lists → n * lists.width ≤ length lists.values
bytes_within lists n sound within =
    let fits = mul-le n lists.width (fixed_count lists) lists.width within (omega arith) in
    let whole = sound.whole in
    omega arith

pub slot_within : (lists : FixedLists) (i : ℕ) → AreSoundFixed lists → i < fixed_count lists → i * lists.width + lists.width ≤ length lists.values
slot_within lists i sound within =
    let fits = row_fits i lists.width (fixed_count lists) lists.width within (omega arith) in
    let whole = sound.whole in
    omega arith

pub part_within : (lists : FixedLists) (from n : ℕ) → AreSoundFixed lists → from + n ≤ fixed_count lists → from * lists.width + n * lists.width ≤ length lists.values
part_within lists from n sound within =
    let fits = bytes_within lists (from + n) sound within in
    let both : (from + n) * lists.width ≡ from * lists.width + n * lists.width = omega arith in
    omega arith

pub count_of : (width n bytes : ℕ) → 0 < width → bytes ≡ n * width → bytes / width ≡ n
count_of width n bytes positive is = ap (λ (m : ℕ). m / width) is ∙ mul-div_cancel n positive

-- ---- slices

bytes-sliced : (lists : FixedLists) (from n : ℕ) → AreSoundFixed lists → from + n ≤ fixed_count lists → length (sublist lists.values (from * lists.width) (n * lists.width)) ≡ n * lists.width
bytes-sliced lists from n sound within = length-sublist lists.values (from * lists.width) (n * lists.width) (part_within lists from n sound within)

pub fixed_count-sliced : (lists : FixedLists) (from n : ℕ) → AreSoundFixed lists → from + n ≤ fixed_count lists → fixed_count (sliced_fixed lists from n) ≡ n
unfolding sliced_fixed
fixed_count-sliced lists from n sound within = count_of lists.width n _ sound.positive (bytes-sliced lists from n sound within)

pub fixed_slots-sliced : (lists : FixedLists) (from n : ℕ) → AreSoundFixed lists → from + n ≤ fixed_count lists → fixed_slots (sliced_fixed lists from n) ≡ sublist (fixed_slots lists) from n
unfolding fixed_slots sliced_fixed
fixed_slots-sliced lists from n sound within =
    let part = sublist lists.values (from * lists.width) (n * lists.width) in
    let size = length-cut lists in
    ap (λ (k : ℕ). flagged_slots (sliced_flags lists.flags from n) (first_chunks lists.width k part)) (count_of lists.width n (length part) sound.positive (bytes-sliced lists from n sound within))
    ∙ ap (flagged_slots (sliced_flags lists.flags from n)) (chunks-sublist lists.width (fixed_count lists) from n lists.values within)
    ∙ storage.flagged_slots-sliced lists.flags (cut lists) from n (flagged lists sound) (omega arith)

pub AreSoundFixed-sliced : (lists : FixedLists) (from n : ℕ) → AreSoundFixed lists → from + n ≤ fixed_count lists → AreSoundFixed (sliced_fixed lists from n)
unfolding sliced_fixed
AreSoundFixed-sliced lists from n sound within =
    let part = sublist lists.values (from * lists.width) (n * lists.width) in
    let bytes : length part ≡ n * lists.width = bytes-sliced lists from n sound within in
    let count : length part / lists.width ≡ n = count_of lists.width n (length part) sound.positive bytes in
    record {
      positive = sound.positive;
      whole = ap (λ (k : ℕ). k * lists.width) count ∙ sym bytes;
      flagged = subst (λ (k : ℕ). AreFlagsOf k (sliced_flags lists.flags from n)) (sym count) (flags.length-sliced_flags lists.flags (fixed_count lists) from n sound.flagged within);
    }

pub part_is : (lists : FixedLists) (from n : ℕ) → AreSoundFixed lists → from + n ≤ fixed_count lists → IsPart lists from n (sliced_fixed lists from n)
part_is lists from n sound within = record {
  part = refl;
  slots = fixed_slots-sliced lists from n sound within;
  count = fixed_count-sliced lists from n sound within;
  sound = AreSoundFixed-sliced lists from n sound within;
}

-- ---- a slot at a place

pub bytes_at : (lists : FixedLists) (i : ℕ) → AreSoundFixed lists → i < fixed_count lists → (slot_at (fixed_slots lists) i).bytes ≡ sublist lists.values (i * lists.width) lists.width
unfolding fixed_slots
bytes_at lists i sound within =
    let count = length-cut lists in
    storage.bytes-flagged_slots lists.flags (cut lists) i (flagged lists sound) (omega arith)
    ∙ chunk_at lists.width (fixed_count lists) i lists.values within

pub valid_at : (lists : FixedLists) (i : ℕ) → AreSoundFixed lists → i < fixed_count lists → (slot_at (fixed_slots lists) i).valid ≡ is_valid_at lists.flags i
unfolding fixed_slots
valid_at lists i sound within =
    let count = length-cut lists in
    storage.valid-flagged_slots lists.flags (cut lists) i (flagged lists sound) (omega arith)

-- ---- rows and null slots

pub rows_are : (lists : FixedLists) → AreSoundFixed lists → optional_values (given_bits lists.flags) (values_of (fixed_slots lists)) ≡ rows_of (fixed_slots lists)
unfolding fixed_slots
rows_are lists sound =
    ap (optional_values (given_bits lists.flags)) (values_of-fixed_slots lists sound)
    ∙ sym (storage.rows_of-flagged_slots lists.flags (cut lists) (flagged lists sound))

pub valid_are : (lists : FixedLists) → AreSoundFixed lists → valid_values (flags_of (fixed_count lists) lists.flags) (values_of (fixed_slots lists)) ≡ filter_map row_of (fixed_slots lists)
unfolding fixed_slots
valid_are lists sound =
    ap (valid_values (flags_of (fixed_count lists) lists.flags)) (values_of-fixed_slots lists sound)
    ∙ ap (λ (n : ℕ). valid_values (flags_of n lists.flags) (cut lists)) (sym (length-cut lists))
    ∙ sym (storage.valid_rows-flagged_slots lists.flags (cut lists) (flagged lists sound))

pub null_slots_are : (lists : FixedLists) → AreSoundFixed lists → count_by not (given_bits lists.flags) ≡ count_by (λ (slot : Slot). not slot.valid) (fixed_slots lists)
unfolding fixed_slots
null_slots_are lists sound = sym (storage.nulls-flagged_slots lists.flags (cut lists) (flagged lists sound))

-- ---- lists without a fault

pub whole_where : (width bytes : ℕ) → bytes % width ≡ 0 → bytes / width * width ≡ bytes
whole_where width bytes none = let parts = div-add-mod' bytes width in omega arith

pub no_rest : (width bytes : ℕ) → bytes / width * width ≡ bytes → bytes % width ≡ 0
no_rest width bytes whole = let parts = div-add-mod' bytes width in omega arith

pub fine_width : (width bytes : ℕ) → 0 < width → bytes / width * width ≡ bytes → width_fault width bytes ≡ None
fine_width width bytes positive whole =
    let rest = no_rest width bytes whole in
    let zero : (width == 0) ≡ false = grind (arith, nat_tests) in
    let more : not (bytes % width == 0) ≡ false = grind (arith, nat_tests) in
    rw (zero, more) refl

pub sound_width : (width bytes : ℕ) → width_fault width bytes ≡ None → (0 < width) × (bytes / width * width ≡ bytes)
sound_width width bytes none =
    let parts = first_none (cause_if (width == 0) SizeZero) (cause_if (not (bytes % width == 0)) NotMultiple) none in
    let zero : (width == 0) ≡ false = cause_none _ SizeZero parts.0 in
    let more : not (bytes % width == 0) ≡ false = cause_none _ NotMultiple parts.1 in
    (grind (arith, nat_tests), whole_where width bytes (grind (arith, nat_tests)))

pub sound_where_fine : (lists : FixedLists) → fixed_fault lists ≡ None → AreSoundFixed lists
sound_where_fine lists none =
    let parts = first_none (width_fault lists.width (length lists.values)) (flags_fault (fixed_count lists) lists.flags) none in
    let width = sound_width lists.width (length lists.values) parts.0 in
    record {
      positive = width.0;
      whole = width.1;
      flagged = (flags.no_flags_fault (fixed_count lists) lists.flags).0 parts.1;
    }

pub fine_where_sound : (lists : FixedLists) → AreSoundFixed lists → fixed_fault lists ≡ None
fine_where_sound lists sound =
    ap (λ (first : Option Cause). first or_else flags_fault (fixed_count lists) lists.flags) (fine_width lists.width (length lists.values) sound.positive sound.whole)
    ∙ (flags.no_flags_fault (fixed_count lists) lists.flags).1 sound.flagged

pub no_fault_is_sound : (lists : FixedLists) → (fixed_fault lists ≡ None) ↔ AreSoundFixed lists
no_fault_is_sound lists = (sound_where_fine lists, fine_where_sound lists)

-- ---- what the slots are

pub flags_are : (lists : FixedLists) → AreSoundFixed lists → length (flags_of (fixed_count lists) lists.flags) ≡ fixed_count lists
flags_are lists sound = flags.length-flags_of lists.flags (fixed_count lists) sound.flagged

pub same_slots : (a b : FixedLists) → a.width ≡ b.width → a.values ≡ b.values → flags_of (fixed_count a) a.flags ≡ flags_of (fixed_count b) b.flags → fixed_slots a ≡ fixed_slots b
unfolding fixed_slots
same_slots a b width values same =
    let count = length-cut a in
    let counts : fixed_count a ≡ fixed_count b = ap (λ (m : ℕ). length a.values / m) width ∙ ap (λ (vs : List ℕ). length vs / b.width) values in
    let flags : flags_of (length (cut a)) a.flags ≡ flags_of (length (cut a)) b.flags =
    ap (λ (n : ℕ). flags_of n a.flags) count ∙ same ∙ ap (λ (n : ℕ). flags_of n b.flags) (sym (count ∙ counts)) in
    storage.flagged_slots-same a.flags b.flags (cut a) flags
    ∙ ap (λ (w : ℕ). flagged_slots b.flags (first_chunks w (fixed_count a) a.values)) width
    ∙ ap (λ (n : ℕ). flagged_slots b.flags (first_chunks b.width n a.values)) counts
    ∙ ap (λ (vs : List ℕ). flagged_slots b.flags (first_chunks b.width (fixed_count b) vs)) values

-- ---- the law of slices

pub flags-sliced : (lists : FixedLists) (from n : ℕ) → AreSoundFixed lists → from + n ≤ fixed_count lists → flags_of n (sliced_fixed lists from n).flags ≡ sublist (flags_of (fixed_count lists) lists.flags) from n
unfolding sliced_fixed
flags-sliced lists from n sound within = flags.flags_of-sliced lists.flags (fixed_count lists) from n sound.flagged within

pub slot_of_slice : (lists : FixedLists) (from n i : ℕ) → AreSoundFixed lists → from + n ≤ fixed_count lists → i < n → slot_at (fixed_slots (sliced_fixed lists from n)) i ≡ slot_at (fixed_slots lists) (from + i)
slot_of_slice lists from n i sound within inside =
    ap (λ (slots : List Slot). slot_at slots i) (fixed_slots-sliced lists from n sound within)
    ∙ storage.slot_at-sublist (fixed_slots lists) from n i inside

pub slices_are_one : (lists : FixedLists) (from n start m : ℕ) → AreSoundFixed lists → from + n ≤ fixed_count lists → start + m ≤ n → sliced_fixed (sliced_fixed lists from n) start m ≡ sliced_fixed lists (from + start) m
unfolding sliced_fixed
slices_are_one lists from n start m sound within inside =
    let w = lists.width in
    let ends = mul-le (start + m) w n w inside (omega arith) in
    let both : (start + m) * w ≡ start * w + m * w = omega arith in
    let place : (from + start) * w ≡ from * w + start * w = omega arith in
    ap (λ (values : List ℕ). fixed_lists w values (sliced_flags (sliced_flags lists.flags from n) start m)) (sublist-sublist lists.values (from * w) (n * w) (start * w) (m * w) (omega arith))
    ∙ ap (λ (at : ℕ). fixed_lists w (sublist lists.values at (m * w)) (sliced_flags (sliced_flags lists.flags from n) start m)) (sym place)
    ∙ ap (fixed_lists w (sublist lists.values ((from + start) * w) (m * w))) (flags.sliced_flags-sliced lists.flags (fixed_count lists) from n start m sound.flagged within inside)

pub split_is_whole : (lists : FixedLists) (place : ℕ) → AreSoundFixed lists → place ≤ fixed_count lists → fixed_slots (sliced_fixed lists 0 place) ++ fixed_slots (sliced_fixed lists place (fixed_count lists - place)) ≡ fixed_slots lists
split_is_whole lists place sound within =
    let back = fixed_count lists - place in
    let count = length-fixed_slots lists sound in
    ap (λ (front : List Slot). front ++ fixed_slots (sliced_fixed lists place back)) (fixed_slots-sliced lists 0 place sound (omega arith))
    ∙ ap (λ (rest : List Slot). sublist (fixed_slots lists) 0 place ++ rest) (fixed_slots-sliced lists place back sound (omega arith))
    ∙ storage.front_and_back (fixed_slots lists) place back (omega arith)

-- ---- slots of zeros

pub sound_nulls : (width n : ℕ) (values : List ℕ) (bits : List Bool) → 0 < width → length values ≡ n * width → length bits ≡ n → AreSoundFixed (fixed_lists width values (Some bits))
sound_nulls width n values bits positive bytes count =
    let slots : length values / width ≡ n = count_of width n (length values) positive bytes in
    record {
      positive = positive;
      whole = ap (λ (k : ℕ). k * width) slots ∙ sym bytes;
      flagged = count ∙ sym slots;
    }

-- slots of bytes that are all valid
pub sound_plain : (width n : ℕ) (values : List ℕ) → 0 < width → length values ≡ n * width → AreSoundFixed (fixed_lists width values None)
sound_plain width n values positive bytes =
    let slots : length values / width ≡ n = count_of width n (length values) positive bytes in
    record { positive = positive; whole = ap (λ (k : ℕ). k * width) slots ∙ sym bytes; flagged = tt }

pub null_lists : (width n : ℕ) → 0 < width → AreSoundFixed (fixed_lists width (replicate (n * width) 0) (Some (replicate n false)))
null_lists width n positive = sound_nulls width n (replicate (n * width) 0) (replicate n false) positive (length-replicate (n * width) 0) (length-replicate n false)

pub no_lists : (width : ℕ) → 0 < width → AreSoundFixed (fixed_lists width [] None)
no_lists width positive = sound_plain width 0 [] positive (omega arith)

pub ruleset nulls = (null_lists, no_lists)

pub ruleset slices = (AreSoundFixed-sliced, part_is, part_within)

pub ruleset places = (bytes_at, valid_at, slot_within)

pub ruleset counts = (length-fixed_slots, null_slots_are)

pub ruleset values = (length-fixed_slots, storage.length-values_of, storage.value_at, rows_are, valid_are)

pub ruleset fine = (sound_where_fine)

pub ruleset widths = (whole_where)

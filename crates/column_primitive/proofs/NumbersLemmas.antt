-- Laws of slots that are numbers: what follows of flags beside the bytes of the numbers.
use Rattle.std.proofs.Common.{◌≡◌, ◌↔◌, ℕ, zero, suc, ◌+◌, ◌-◌, ◌<◌, ◌≤◌, Bool, true, false, not, List, [], ◌∷◌, ◌++◌, length, map, replicate, get_or, Option, None, Some, refl, sym, ◌∙◌, ap, subst, arith, count_by}
use Rattle.std.specs.Prelude.{◌^◌, option_map, slice_get, unwrap_or}
use Rattle.std.specs.Int.{w8, w16, w32, w64, cast_signed, cast_unsigned}
use Rattle.std.proofs.lemmas.Int.{of_z-to_z}
use Rattle.std.proofs.lemmas.List.{length-map, length-replicate}
use Rattle.column_base.specs.declared.datatypes.ArrowDataType.{ArrowDataType}
use Rattle.column_base.specs.Kinds.{Slot}
use Rattle.column_base.specs.Lists.{sublist}
use Rattle.column_base.specs.Slots.{slot_at, values_of, rows_of}
use Rattle.column_base.proofs.ListsLemmas.{length-sublist, map-sublist, sublist-sublist}
use Rattle.column_storage.specs.Bits.{flags_of, sliced_flags, given_bits, optional_values}
use Rattle.column_storage.specs.Slots.{flagged_slots}
use Rattle.column_storage.specs.Validity.{AreFlagsOf, is_valid_at}
use Rattle.column_storage.proofs.FlagsLemmas as flags
use Rattle.column_storage.proofs.SlotsLemmas as storage
use Rattle.column_primitive.specs.Numbers.{NumberLists, number_lists, number_count, number_slots, number_fault, AreSoundNumbers, sliced_numbers, number_rows, NumberArray, number_array, sliced_array, IsNumberPart}

module _ {T : Type 0} (bytes : T → List ℕ) where
  -- flags that are given are as many as the values
  pub flagged : (lists : NumberLists T) → AreSoundNumbers lists → AreFlagsOf (length (map bytes lists.numbers)) lists.flags
  flagged lists sound = subst (λ (n : ℕ). AreFlagsOf n lists.flags) (sym (length-map lists.numbers bytes)) sound.flagged

  pub length-number_slots : (lists : NumberLists T) → AreSoundNumbers lists → length (number_slots bytes lists) ≡ number_count lists
  unfolding number_slots
  length-number_slots lists sound =
      storage.length-flagged_slots lists.flags (map bytes lists.numbers) (flagged lists sound) ∙ length-map lists.numbers bytes

  pub values_of-number_slots : (lists : NumberLists T) → AreSoundNumbers lists → values_of (number_slots bytes lists) ≡ map bytes lists.numbers
  unfolding number_slots
  values_of-number_slots lists sound = storage.values_of-flagged_slots lists.flags (map bytes lists.numbers) (flagged lists sound)

  -- ---- slices

  pub number_slots-sliced : (lists : NumberLists T) (from n : ℕ) → AreSoundNumbers lists → from + n ≤ number_count lists → number_slots bytes (sliced_numbers lists from n) ≡ sublist (number_slots bytes lists) from n
  unfolding number_slots sliced_numbers
  number_slots-sliced lists from n sound within =
      let count = length-map lists.numbers bytes in
      ap (flagged_slots (sliced_flags lists.flags from n)) (map-sublist bytes lists.numbers from n)
      ∙ storage.flagged_slots-sliced lists.flags (map bytes lists.numbers) from n (flagged lists sound) (omega arith)

  -- ---- a slot at a place

  get_or-map : (xs : List T) (i : ℕ) (d : T) → i < length xs → get_or (map bytes xs) i [] ≡ bytes (get_or xs i d)
  get_or-map [] i d within = absurd (omega arith)
  get_or-map (x ∷ xs) zero d within = refl
  get_or-map (x ∷ xs) (suc i) d within = get_or-map xs i d (omega arith)

  got_at : (xs : List T) (i : ℕ) (x : T) → slice_get xs i ≡ Some x → get_or (map bytes xs) i [] ≡ bytes x
  got_at [] i x is = absurd (cc)
  got_at (y ∷ xs) zero x is = ap (λ (o : Option T). bytes (unwrap_or o y)) is
  got_at (y ∷ xs) (suc i) x is = got_at xs i x is

  got_within : (xs : List T) (i : ℕ) (x : T) → slice_get xs i ≡ Some x → i < length xs
  got_within [] i x is = absurd (cc)
  got_within (y ∷ xs) zero x is = omega arith
  got_within (y ∷ xs) (suc i) x is = let rest = got_within xs i x is in omega arith

  pub bytes_at : (lists : NumberLists T) (i : ℕ) (x : T) → AreSoundNumbers lists → slice_get lists.numbers i ≡ Some x → (slot_at (number_slots bytes lists) i).bytes ≡ bytes x
  unfolding number_slots
  bytes_at lists i x sound is =
      let count = length-map lists.numbers bytes in
      let within = got_within lists.numbers i x is in
      storage.bytes-flagged_slots lists.flags (map bytes lists.numbers) i (flagged lists sound) (omega arith)
      ∙ got_at lists.numbers i x is

  pub valid_at : (lists : NumberLists T) (i : ℕ) → AreSoundNumbers lists → i < number_count lists → (slot_at (number_slots bytes lists) i).valid ≡ is_valid_at lists.flags i
  unfolding number_slots
  valid_at lists i sound within =
      let count = length-map lists.numbers bytes in
      storage.valid-flagged_slots lists.flags (map bytes lists.numbers) i (flagged lists sound) (omega arith)

  -- ---- rows and null slots

  optional_values-map : (bits : List Bool) (xs : List T) → optional_values bits (map bytes xs) ≡ map (option_map bytes) (optional_values bits xs)
  optional_values-map bits [] = refl
  optional_values-map [] (x ∷ xs) = ap (λ rows. Some (bytes x) ∷ rows) (optional_values-map [] xs)
  optional_values-map (true ∷ bits) (x ∷ xs) = ap (λ rows. Some (bytes x) ∷ rows) (optional_values-map bits xs)
  optional_values-map (false ∷ bits) (x ∷ xs) = ap (λ (rows : List (Option (List ℕ))). None ∷ rows) (optional_values-map bits xs)

  pub rows_are : (lists : NumberLists T) → AreSoundNumbers lists → rows_of (number_slots bytes lists) ≡ map (option_map bytes) (number_rows lists)
  unfolding number_slots
  rows_are lists sound =
      storage.rows_of-flagged_slots lists.flags (map bytes lists.numbers) (flagged lists sound)
      ∙ optional_values-map (given_bits lists.flags) lists.numbers

  pub null_slots_are : (lists : NumberLists T) → AreSoundNumbers lists → count_by not (given_bits lists.flags) ≡ count_by (λ (slot : Slot). not slot.valid) (number_slots bytes lists)
  unfolding number_slots
  null_slots_are lists sound = sym (storage.nulls-flagged_slots lists.flags (map bytes lists.numbers) (flagged lists sound))

  pub same_slots : (a b : NumberLists T) → a.numbers ≡ b.numbers → flags_of (number_count a) a.flags ≡ flags_of (number_count b) b.flags → number_slots bytes a ≡ number_slots bytes b
  unfolding number_slots
  same_slots a b numbers same =
      let count = length-map a.numbers bytes in
      let counts : number_count a ≡ number_count b = ap (λ (ns : List T). length ns) numbers in
      let flags : flags_of (length (map bytes a.numbers)) a.flags ≡ flags_of (length (map bytes a.numbers)) b.flags =
      ap (λ (n : ℕ). flags_of n a.flags) count ∙ same ∙ ap (λ (n : ℕ). flags_of n b.flags) (sym (count ∙ counts)) in
      storage.flagged_slots-same a.flags b.flags (map bytes a.numbers) flags
      ∙ ap (λ (ns : List T). flagged_slots b.flags (map bytes ns)) numbers

-- ---- the same bytes of another type

pub slots_of_bytes : {X Y : Type 0} (bytes : X → List ℕ) (other : Y → List ℕ) (xs : List X) (ys : List Y) (flags : Option (List Bool)) → map bytes xs ≡ map other ys → number_slots bytes (number_lists xs flags) ≡ number_slots other (number_lists ys flags)
unfolding number_slots
slots_of_bytes bytes other xs ys flags same = ap (flagged_slots flags) same

-- a signed number that was cast from an unsigned one is cast back to it
pub cast_back_8 : (n : ℕ) → n < 2 ^ 8 → cast_unsigned w8 (cast_signed w8 n) ≡ n
cast_back_8 n fits = of_z-to_z w8 n fits

pub cast_back_16 : (n : ℕ) → n < 2 ^ 16 → cast_unsigned w16 (cast_signed w16 n) ≡ n
cast_back_16 n fits = of_z-to_z w16 n fits

pub cast_back_32 : (n : ℕ) → n < 2 ^ 32 → cast_unsigned w32 (cast_signed w32 n) ≡ n
cast_back_32 n fits = of_z-to_z w32 n fits

pub cast_back_64 : (n : ℕ) → n < 2 ^ 64 → cast_unsigned w64 (cast_signed w64 n) ≡ n
cast_back_64 n fits = of_z-to_z w64 n fits

-- ---- sound lists, and those without a fault

pub number_count-sliced : {T : Type 0} (lists : NumberLists T) (from n : ℕ) → from + n ≤ number_count lists → number_count (sliced_numbers lists from n) ≡ n
unfolding sliced_numbers
number_count-sliced lists from n within = length-sublist lists.numbers from n within

pub AreSoundNumbers-sliced : {T : Type 0} (lists : NumberLists T) (from n : ℕ) → AreSoundNumbers lists → from + n ≤ number_count lists → AreSoundNumbers (sliced_numbers lists from n)
unfolding sliced_numbers
AreSoundNumbers-sliced lists from n sound within = record {
  flagged = subst (λ (m : ℕ). AreFlagsOf m (sliced_flags lists.flags from n)) (sym (length-sublist lists.numbers from n within)) (flags.length-sliced_flags lists.flags (number_count lists) from n sound.flagged within);
}

pub part_is : {T : Type 0} (bytes : T → List ℕ) (array : NumberArray T) (from n : ℕ) → AreSoundNumbers array.lists → from + n ≤ number_count array.lists → IsNumberPart bytes array from n (sliced_array array from n)
part_is bytes array from n sound within = record {
  dtype = refl;
  part = refl;
  slots = number_slots-sliced bytes array.lists from n sound within;
  count = number_count-sliced array.lists from n within;
  sound = AreSoundNumbers-sliced array.lists from n sound within;
}

pub part_given : {T : Type 0} (bytes : T → List ℕ) (array : NumberArray T) (from n : ℕ) (dtype : ArrowDataType) (numbers : List T) (flags : Option (List Bool)) → AreSoundNumbers array.lists → from + n ≤ number_count array.lists
    → dtype ≡ array.dtype → numbers ≡ sublist array.lists.numbers from n → flags ≡ sliced_flags array.lists.flags from n
    → IsNumberPart bytes array from n (number_array dtype (number_lists numbers flags))
unfolding sliced_numbers
part_given bytes array from n dtype numbers flags sound within same part left = rw (same, part, left) (part_is bytes array from n sound within)

pub sound_where_fine : {T : Type 0} (lists : NumberLists T) → number_fault lists ≡ None → AreSoundNumbers lists
sound_where_fine lists none = record { flagged = (flags.no_flags_fault (number_count lists) lists.flags).0 none }

pub no_fault_is_sound : {T : Type 0} (lists : NumberLists T) → (number_fault lists ≡ None) ↔ AreSoundNumbers lists
no_fault_is_sound lists = (sound_where_fine lists, λ sound. (flags.no_flags_fault (number_count lists) lists.flags).1 sound.flagged)

-- ---- laws

pub flags_are : {T : Type 0} (lists : NumberLists T) → AreSoundNumbers lists → length (flags_of (number_count lists) lists.flags) ≡ number_count lists
flags_are lists sound = flags.length-flags_of lists.flags (number_count lists) sound.flagged

pub flags-sliced : {T : Type 0} (lists : NumberLists T) (from n : ℕ) → AreSoundNumbers lists → from + n ≤ number_count lists → flags_of n (sliced_numbers lists from n).flags ≡ sublist (flags_of (number_count lists) lists.flags) from n
unfolding sliced_numbers
flags-sliced lists from n sound within = flags.flags_of-sliced lists.flags (number_count lists) from n sound.flagged within

pub slot_of_slice : {T : Type 0} (bytes : T → List ℕ) (lists : NumberLists T) (from n i : ℕ) → AreSoundNumbers lists → from + n ≤ number_count lists → i < n → slot_at (number_slots bytes (sliced_numbers lists from n)) i ≡ slot_at (number_slots bytes lists) (from + i)
slot_of_slice bytes lists from n i sound within inside =
    ap (λ (slots : List Slot). slot_at slots i) (number_slots-sliced bytes lists from n sound within)
    ∙ storage.slot_at-sublist (number_slots bytes lists) from n i inside

pub slices_are_one : {T : Type 0} (lists : NumberLists T) (from n start m : ℕ) → AreSoundNumbers lists → from + n ≤ number_count lists → start + m ≤ n → sliced_numbers (sliced_numbers lists from n) start m ≡ sliced_numbers lists (from + start) m
unfolding sliced_numbers
slices_are_one {T} lists from n start m sound within inside =
    ap (λ (numbers : List T). number_lists numbers (sliced_flags (sliced_flags lists.flags from n) start m)) (sublist-sublist lists.numbers from n start m inside)
    ∙ ap (number_lists (sublist lists.numbers (from + start) m)) (flags.sliced_flags-sliced lists.flags (number_count lists) from n start m sound.flagged within inside)

pub split_is_whole : {T : Type 0} (bytes : T → List ℕ) (lists : NumberLists T) (place : ℕ) → AreSoundNumbers lists → place ≤ number_count lists → number_slots bytes (sliced_numbers lists 0 place) ++ number_slots bytes (sliced_numbers lists place (number_count lists - place)) ≡ number_slots bytes lists
split_is_whole bytes lists place sound within =
    let back = number_count lists - place in
    let count = length-number_slots bytes lists sound in
    ap (λ (front : List Slot). front ++ number_slots bytes (sliced_numbers lists place back)) (number_slots-sliced bytes lists 0 place sound (omega arith))
    ∙ ap (λ (rest : List Slot). sublist (number_slots bytes lists) 0 place ++ rest) (number_slots-sliced bytes lists place back sound (omega arith))
    ∙ storage.front_and_back (number_slots bytes lists) place back (omega arith)

-- ---- lists of one number

pub null_numbers : {T : Type 0} (x : T) (n : ℕ) → AreSoundNumbers (number_lists (replicate n x) (Some (replicate n false)))
null_numbers x n = record { flagged = length-replicate n false ∙ sym (length-replicate n x) }

pub filled : {T : Type 0} (x : T) (n : ℕ) → length (replicate n x) ≡ n
filled x n = length-replicate n x

pub ruleset slices = (AreSoundNumbers-sliced, part_is, part_given)

pub ruleset places = (bytes_at, valid_at)

pub ruleset counts = (length-number_slots, null_slots_are)

pub ruleset fine = (sound_where_fine)

pub ruleset counted = (length-number_slots, flags_are)

pub ruleset numbers_of_slots = (bytes_at, values_of-number_slots)

pub ruleset flags_of_part = (flags-sliced)

pub ruleset slots_of_part = (number_slots-sliced)

pub ruleset same_bytes = (slots_of_bytes)

pub ruleset casts = (cast_back_8, cast_back_16, cast_back_32, cast_back_64)

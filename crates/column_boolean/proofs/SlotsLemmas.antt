-- Laws of slots of truth values, of sound lists, and of their parts.
use Rattle.std.proofs.Common.{◌≡◌, ℕ, zero, suc, ◌+◌, ◌-◌, ◌<◌, ◌≤◌, Bool, true, false, not, List, [], ◌∷◌, ◌++◌, length, map, get_or, slice_get, count_by, Option, Some, None, ◌↔◌, refl, sym, ◌∙◌, ap, subst, arith}
use Rattle.std.specs.Prelude.{slice_index_or, option_map, if◌then◌else◌}
use Rattle.std.proofs.lemmas.List.{length-map, get_or-map}
use Rattle.column_base.specs.Kinds.{Slot}
use Rattle.column_base.specs.Lists.{sublist}
use Rattle.column_base.specs.Slots.{slot_at, rows_of}
use Rattle.column_base.proofs.ListsLemmas.{length-sublist, sublist-sublist, map-sublist}
use Rattle.column_storage.specs.Bits.{flags_of, sliced_flags, given_bits, optional_values}
use Rattle.column_storage.specs.Slots.{flagged_slots}
use Rattle.column_storage.specs.Validity.{AreFlagsOf, is_valid_at}
use Rattle.column_storage.proofs.FlagsLemmas as flags
use Rattle.column_storage.proofs.SlotsLemmas as storage
use Rattle.column_boolean.specs.Slots.{BooleanLists, boolean_lists, boolean_count, boolean_slots, byte_of, boolean_fault, AreSoundBooleans, sliced_booleans, IsPart}

-- ---- sound lists

length-bytes : (lists : BooleanLists) → length (map byte_of lists.values) ≡ boolean_count lists
length-bytes lists = length-map lists.values byte_of

-- flags that are given are as many as the bytes
pub flagged : (lists : BooleanLists) → AreSoundBooleans lists → AreFlagsOf (length (map byte_of lists.values)) lists.flags
flagged lists sound = subst (λ (n : ℕ). AreFlagsOf n lists.flags) (sym (length-bytes lists)) sound.flagged

pub length-boolean_slots : (lists : BooleanLists) → AreSoundBooleans lists → length (boolean_slots lists) ≡ boolean_count lists
unfolding boolean_slots
length-boolean_slots lists sound = storage.length-flagged_slots lists.flags (map byte_of lists.values) (flagged lists sound) ∙ length-bytes lists

-- ---- slices

pub boolean_slots-sliced : (lists : BooleanLists) (from n : ℕ) → AreSoundBooleans lists → from + n ≤ boolean_count lists → boolean_slots (sliced_booleans lists from n) ≡ sublist (boolean_slots lists) from n
unfolding boolean_slots sliced_booleans
boolean_slots-sliced lists from n sound within =
    let count = length-bytes lists in
    ap (flagged_slots (sliced_flags lists.flags from n)) (map-sublist byte_of lists.values from n)
    ∙ storage.flagged_slots-sliced lists.flags (map byte_of lists.values) from n (flagged lists sound) (omega arith)

pub count-sliced : (lists : BooleanLists) (from n : ℕ) → from + n ≤ boolean_count lists → boolean_count (sliced_booleans lists from n) ≡ n
unfolding sliced_booleans
count-sliced lists from n within = length-sublist lists.values from n within

pub AreSoundBooleans-sliced : (lists : BooleanLists) (from n : ℕ) → AreSoundBooleans lists → from + n ≤ boolean_count lists → AreSoundBooleans (sliced_booleans lists from n)
unfolding sliced_booleans
AreSoundBooleans-sliced lists from n sound within = record {
  flagged = subst (λ (k : ℕ). AreFlagsOf k (sliced_flags lists.flags from n)) (sym (length-sublist lists.values from n within)) (flags.length-sliced_flags lists.flags (boolean_count lists) from n sound.flagged within);
}

pub part_is : (lists : BooleanLists) (from n : ℕ) → AreSoundBooleans lists → from + n ≤ boolean_count lists → IsPart lists from n (sliced_booleans lists from n)
part_is lists from n sound within = record {
  part = refl;
  slots = boolean_slots-sliced lists from n sound within;
  count = count-sliced lists from n within;
  sound = AreSoundBooleans-sliced lists from n sound within;
}

-- ---- a slot at a place

pub bytes_at : (lists : BooleanLists) (i : ℕ) → AreSoundBooleans lists → i < boolean_count lists → (slot_at (boolean_slots lists) i).bytes ≡ byte_of (get_or lists.values i false)
unfolding boolean_slots
bytes_at lists i sound within =
    let count = length-bytes lists in
    storage.bytes-flagged_slots lists.flags (map byte_of lists.values) i (flagged lists sound) (omega arith)
    ∙ get_or-map byte_of lists.values i false [] within

value_is : (values : List Bool) (i : ℕ) (value : Bool) → slice_get values i ≡ Some value → get_or values i false ≡ value
value_is [] i value at = absurd (cc)
value_is (x ∷ values) zero value at = cc
value_is (x ∷ values) (suc i) value at = value_is values i value at

pub byte_at : (lists : BooleanLists) (i : ℕ) (value : Bool) → AreSoundBooleans lists → i < boolean_count lists → slice_get lists.values i ≡ Some value → (slot_at (boolean_slots lists) i).bytes ≡ byte_of value
byte_at lists i value sound within at = bytes_at lists i sound within ∙ ap byte_of (value_is lists.values i value at)

pub valid_at : (lists : BooleanLists) (i : ℕ) → AreSoundBooleans lists → i < boolean_count lists → (slot_at (boolean_slots lists) i).valid ≡ is_valid_at lists.flags i
unfolding boolean_slots
valid_at lists i sound within =
    let count = length-bytes lists in
    storage.valid-flagged_slots lists.flags (map byte_of lists.values) i (flagged lists sound) (omega arith)

-- ---- rows and null slots

pub null_slots_are : (lists : BooleanLists) → AreSoundBooleans lists → count_by not (given_bits lists.flags) ≡ count_by (λ (slot : Slot). not slot.valid) (boolean_slots lists)
unfolding boolean_slots
null_slots_are lists sound = sym (storage.nulls-flagged_slots lists.flags (map byte_of lists.values) (flagged lists sound))

-- the rows of slots are the bytes of the rows
map_row : (valid : Bool) (value : Bool) → (if valid then Some (byte_of value) else None) ≡ option_map byte_of (if valid then Some value else None)
map_row true value = refl
map_row false value = refl

optional-map : (bits values : List Bool) → optional_values bits (map byte_of values) ≡ map (option_map byte_of) (optional_values bits values)
optional-map bits [] = refl
optional-map [] (value ∷ values) = ap (λ rest. Some (byte_of value) ∷ rest) (optional-map [] values)
optional-map (bit ∷ bits) (value ∷ values) =
    ap (λ row. row ∷ optional_values bits (map byte_of values)) (map_row bit value)
    ∙ ap (λ rest. option_map byte_of (if bit then Some value else None) ∷ rest) (optional-map bits values)

pub rows_are : (lists : BooleanLists) → AreSoundBooleans lists → rows_of (boolean_slots lists) ≡ map (option_map byte_of) (optional_values (given_bits lists.flags) lists.values)
unfolding boolean_slots
rows_are lists sound = storage.rows_of-flagged_slots lists.flags (map byte_of lists.values) (flagged lists sound) ∙ optional-map (given_bits lists.flags) lists.values

-- ---- lists without a fault

pub sound_where_fine : (lists : BooleanLists) → boolean_fault lists ≡ None → AreSoundBooleans lists
sound_where_fine lists none = record { flagged = (flags.no_flags_fault (boolean_count lists) lists.flags).0 none }

pub no_fault_is_sound : (lists : BooleanLists) → (boolean_fault lists ≡ None) ↔ AreSoundBooleans lists
no_fault_is_sound lists = (sound_where_fine lists, λ sound. (flags.no_flags_fault (boolean_count lists) lists.flags).1 sound.flagged)

-- ---- what the slots are

pub flags_are : (lists : BooleanLists) → AreSoundBooleans lists → length (flags_of (boolean_count lists) lists.flags) ≡ boolean_count lists
flags_are lists sound = flags.length-flags_of lists.flags (boolean_count lists) sound.flagged

-- ---- the law of slices

pub flags-sliced : (lists : BooleanLists) (from n : ℕ) → AreSoundBooleans lists → from + n ≤ boolean_count lists → flags_of n (sliced_booleans lists from n).flags ≡ sublist (flags_of (boolean_count lists) lists.flags) from n
unfolding sliced_booleans
flags-sliced lists from n sound within = flags.flags_of-sliced lists.flags (boolean_count lists) from n sound.flagged within

pub slot_of_slice : (lists : BooleanLists) (from n i : ℕ) → AreSoundBooleans lists → from + n ≤ boolean_count lists → i < n → slot_at (boolean_slots (sliced_booleans lists from n)) i ≡ slot_at (boolean_slots lists) (from + i)
slot_of_slice lists from n i sound within inside =
    ap (λ (slots : List Slot). slot_at slots i) (boolean_slots-sliced lists from n sound within)
    ∙ storage.slot_at-sublist (boolean_slots lists) from n i inside

pub slices_are_one : (lists : BooleanLists) (from n start m : ℕ) → AreSoundBooleans lists → from + n ≤ boolean_count lists → start + m ≤ n → sliced_booleans (sliced_booleans lists from n) start m ≡ sliced_booleans lists (from + start) m
unfolding sliced_booleans
slices_are_one lists from n start m sound within inside =
    ap (λ (values : List Bool). boolean_lists values (sliced_flags (sliced_flags lists.flags from n) start m)) (sublist-sublist lists.values from n start m inside)
    ∙ ap (boolean_lists (sublist lists.values (from + start) m)) (flags.sliced_flags-sliced lists.flags (boolean_count lists) from n start m sound.flagged within inside)

pub split_is_whole : (lists : BooleanLists) (place : ℕ) → AreSoundBooleans lists → place ≤ boolean_count lists → boolean_slots (sliced_booleans lists 0 place) ++ boolean_slots (sliced_booleans lists place (boolean_count lists - place)) ≡ boolean_slots lists
split_is_whole lists place sound within =
    let back = boolean_count lists - place in
    let count = length-boolean_slots lists sound in
    ap (λ (front : List Slot). front ++ boolean_slots (sliced_booleans lists place back)) (boolean_slots-sliced lists 0 place sound (omega arith))
    ∙ ap (λ (rest : List Slot). sublist (boolean_slots lists) 0 place ++ rest) (boolean_slots-sliced lists place back sound (omega arith))
    ∙ storage.front_and_back (boolean_slots lists) place back (omega arith)

valid_row : (values : List Bool) (i : ℕ) (value : Bool) → slice_get values i ≡ Some value → slice_get (optional_values [] values) i ≡ Some (Some value)
valid_row [] i value at = absurd (cc)
valid_row (x ∷ values) zero value at = cc
valid_row (x ∷ values) (suc i) value at = valid_row values i value at

row_by : (bits values : List Bool) (i : ℕ) (value : Bool) → length bits ≡ length values → slice_get values i ≡ Some value
    → slice_get (optional_values bits values) i ≡ Some (if slice_index_or bits i true then Some value else None)
row_by bits [] i value same at = absurd (cc)
row_by [] (x ∷ values) i value same at = absurd (omega arith)
row_by (bit ∷ bits) (x ∷ values) zero value same at = let is : x ≡ value = cc in rw is refl
row_by (bit ∷ bits) (x ∷ values) (suc i) value same at = row_by bits values i value (omega arith) at

-- the row of slot i
pub row_at : (flags : Option (List Bool)) (values : List Bool) (i : ℕ) (value : Bool) → AreFlagsOf (length values) flags → i < length values → slice_get values i ≡ Some value
    → slice_get (optional_values (given_bits flags) values) i ≡ Some (if is_valid_at flags i then Some value else None)
row_at None values i value all within at = valid_row values i value at
row_at (Some bits) values i value all within at = row_by bits values i value (omega arith) at

pub row_valid : (lists : BooleanLists) (i : ℕ) (value : Bool) → AreSoundBooleans lists → i < boolean_count lists → slice_get lists.values i ≡ Some value → is_valid_at lists.flags i ≡ true → slice_get (optional_values (given_bits lists.flags) lists.values) i ≡ Some (Some value)
row_valid lists i value sound within at valid = row_at lists.flags lists.values i value sound.flagged within at ∙ ap (λ (v : Bool). Some (if v then Some value else None)) valid

pub row_null : (lists : BooleanLists) (i : ℕ) (value : Bool) → AreSoundBooleans lists → i < boolean_count lists → slice_get lists.values i ≡ Some value → is_valid_at lists.flags i ≡ false → slice_get (optional_values (given_bits lists.flags) lists.values) i ≡ Some None
row_null lists i value sound within at valid = row_at lists.flags lists.values i value sound.flagged within at ∙ ap (λ (v : Bool). Some (if v then Some value else None)) valid

pub ruleset rows = (row_valid, row_null)

pub ruleset slices = (AreSoundBooleans-sliced, part_is)

pub ruleset places = (byte_at, valid_at)

pub ruleset counts = (length-boolean_slots, null_slots_are)

pub ruleset fine = (sound_where_fine)

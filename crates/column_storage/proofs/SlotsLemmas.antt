-- Laws of slots that are flags beside values, and of their parts.
use Rattle.std.proofs.Common.{◌≡◌, ℕ, zero, suc, ◌+◌, ◌<◌, ◌≤◌, Bool, true, false, not, cond, List, [], ◌∷◌, ◌++◌, length, map, take, drop, slice_get, count_by, Option, Some, None, refl, sym, ◌∙◌, ap, arith}
use Rattle.std.specs.Prelude.{slice_index_or}
use Rattle.std.specs.List.{filter_map}
use Rattle.std.proofs.Math.Seq.{take-length}
use Rattle.std.proofs.lemmas.List.{get_or-replicate, length-map, length-drop, take-append-drop}
use Rattle.std.proofs.lemmas.List.Sums.{sum_by-cons}
use Rattle.column_base.specs.Kinds.{Slot}
use Rattle.column_base.specs.Lists.{sublist}
use Rattle.column_base.specs.Slots.{slots_by, slot_at, values_of, row_of, rows_of}
use Rattle.column_base.proofs.ListsLemmas.{length-sublist, sublist-sublist, get_or-sublist}
use Rattle.column_base.proofs.SlotsLemmas.{slots_by-sublist, length-slots_by, values_of-slots_by, bytes-slots_by, valid-slots_by}
use Rattle.column_storage.specs.Bits.{flags_of, given_bits, optional_values, sliced_flags, valid_values}
use Rattle.column_storage.specs.Slots.{flagged_slots}
use Rattle.column_storage.specs.Validity.{AreFlagsOf, is_valid_at}
use Rattle.column_storage.proofs.FlagsLemmas.{flags_of-sliced, length-flags_of, sliced_flags-sliced, optional_values-flags, rows_of-slots_by, count-given}

-- ---- what the slots are

pub length-flagged_slots : (flags : Option (List Bool)) (values : List (List ℕ)) → AreFlagsOf (length values) flags → length (flagged_slots flags values) ≡ length values
unfolding flagged_slots
length-flagged_slots flags values all =
    let same = length-flags_of flags (length values) all in
    length-slots_by (flags_of (length values) flags) values same ∙ same

pub values_of-flagged_slots : (flags : Option (List Bool)) (values : List (List ℕ)) → AreFlagsOf (length values) flags → values_of (flagged_slots flags values) ≡ values
unfolding flagged_slots
values_of-flagged_slots flags values all =
    values_of-slots_by (flags_of (length values) flags) values (length-flags_of flags (length values) all)

flags-slots_by : (flags : List Bool) (values : List (List ℕ)) → length flags ≡ length values → map (λ (slot : Slot). slot.valid) (slots_by flags values) ≡ flags
flags-slots_by [] values same = refl
flags-slots_by (flag ∷ flags) [] same = absurd (omega arith)
flags-slots_by (flag ∷ flags) (bytes ∷ values) same = ap (λ rest. flag ∷ rest) (flags-slots_by flags values (omega arith))

pub flags-flagged_slots : (flags : Option (List Bool)) (values : List (List ℕ)) → AreFlagsOf (length values) flags → map (λ (slot : Slot). slot.valid) (flagged_slots flags values) ≡ flags_of (length values) flags
unfolding flagged_slots
flags-flagged_slots flags values all =
    flags-slots_by (flags_of (length values) flags) values (length-flags_of flags (length values) all)

-- flags are read, not compared: none say the same as all that are true
pub flagged_slots-same : (a b : Option (List Bool)) (values : List (List ℕ)) → flags_of (length values) a ≡ flags_of (length values) b → flagged_slots a values ≡ flagged_slots b values
unfolding flagged_slots
flagged_slots-same a b values same = ap (λ (flags : List Bool). slots_by flags values) same

-- ---- the slot at a place

pub bytes-flagged_slots : (flags : Option (List Bool)) (values : List (List ℕ)) (i : ℕ) → AreFlagsOf (length values) flags → i < length values → (slot_at (flagged_slots flags values) i).bytes ≡ slice_index_or values i []
unfolding flagged_slots
bytes-flagged_slots flags values i all within =
    bytes-slots_by (flags_of (length values) flags) values i (length-flags_of flags (length values) all) within

flag_read : (flags : Option (List Bool)) (n i : ℕ) → i < n → slice_index_or (flags_of n flags) i true ≡ is_valid_at flags i
flag_read None n i within = get_or-replicate n i true true within
flag_read (Some bits) n i within = refl

pub valid-flagged_slots : (flags : Option (List Bool)) (values : List (List ℕ)) (i : ℕ) → AreFlagsOf (length values) flags → i < length values → (slot_at (flagged_slots flags values) i).valid ≡ is_valid_at flags i
unfolding flagged_slots
valid-flagged_slots flags values i all within =
    valid-slots_by (flags_of (length values) flags) values i (length-flags_of flags (length values) all) within
    ∙ flag_read flags (length values) i within

pub length-values_of : (slots : List Slot) → length (values_of slots) ≡ length slots
length-values_of slots = length-map slots (λ slot. slot.bytes)

pub value_at : (slots : List Slot) (i : ℕ) → i < length slots → slice_get (values_of slots) i ≡ Some (slot_at slots i).bytes
value_at [] i within = absurd (omega arith)
value_at (slot ∷ slots) zero within = refl
value_at (slot ∷ slots) (suc i) within = value_at slots i (omega arith)

-- ---- slices

pub flagged_slots-sliced : (flags : Option (List Bool)) (values : List (List ℕ)) (from n : ℕ) → AreFlagsOf (length values) flags → from + n ≤ length values → flagged_slots (sliced_flags flags from n) (sublist values from n) ≡ sublist (flagged_slots flags values) from n
unfolding flagged_slots
flagged_slots-sliced flags values from n all within =
    ap (λ (m : ℕ). slots_by (flags_of m (sliced_flags flags from n)) (sublist values from n)) (length-sublist values from n within)
    ∙ ap (λ (bits : List Bool). slots_by bits (sublist values from n)) (flags_of-sliced flags (length values) from n all within)
    ∙ slots_by-sublist (flags_of (length values) flags) values from n

-- a slot of some in a row
pub slot_at-sublist : (slots : List Slot) (from n i : ℕ) → i < n → slot_at (sublist slots from n) i ≡ slot_at slots (from + i)
slot_at-sublist slots from n i within = get_or-sublist slots from n i _ within

pub slot_at-sliced : (flags : Option (List Bool)) (values : List (List ℕ)) (from n i : ℕ) → AreFlagsOf (length values) flags → from + n ≤ length values → i < n → slot_at (flagged_slots (sliced_flags flags from n) (sublist values from n)) i ≡ slot_at (flagged_slots flags values) (from + i)
slot_at-sliced flags values from n i all within inside =
    ap (λ (slots : List Slot). slot_at slots i) (flagged_slots-sliced flags values from n all within)
    ∙ slot_at-sublist (flagged_slots flags values) from n i inside

-- two slices are one
pub flagged_slots-sliced_twice : (flags : Option (List Bool)) (values : List (List ℕ)) (from n start m : ℕ) → AreFlagsOf (length values) flags → from + n ≤ length values → start + m ≤ n → flagged_slots (sliced_flags (sliced_flags flags from n) start m) (sublist (sublist values from n) start m) ≡ flagged_slots (sliced_flags flags (from + start) m) (sublist values (from + start) m)
flagged_slots-sliced_twice flags values from n start m all within inside =
    ap (λ (bits : Option (List Bool)). flagged_slots bits (sublist (sublist values from n) start m)) (sliced_flags-sliced flags (length values) from n start m all within inside)
    ∙ ap (flagged_slots (sliced_flags flags (from + start) m)) (sublist-sublist values from n start m inside)

-- ---- splits

-- the front and the back of a list
pub front_and_back : {X : Type 0} (xs : List X) (place rest : ℕ) → place + rest ≡ length xs → sublist xs 0 place ++ sublist xs place rest ≡ xs
front_and_back xs place rest all =
    let left = length-drop place xs in
    let whole : rest ≡ length (drop place xs) = omega arith in
    ap (λ n. take place xs ++ take n (drop place xs)) whole
    ∙ ap (λ back. take place xs ++ back) (take-length (drop place xs))
    ∙ take-append-drop place xs

pub flagged_slots-split : (flags : Option (List Bool)) (values : List (List ℕ)) (place rest : ℕ) → AreFlagsOf (length values) flags → place + rest ≡ length values → flagged_slots (sliced_flags flags 0 place) (sublist values 0 place) ++ flagged_slots (sliced_flags flags place rest) (sublist values place rest) ≡ flagged_slots flags values
flagged_slots-split flags values place rest all whole =
    let slots = flagged_slots flags values in
    let count : length slots ≡ length values = length-flagged_slots flags values all in
    ap (λ (front : List Slot). front ++ flagged_slots (sliced_flags flags place rest) (sublist values place rest)) (flagged_slots-sliced flags values 0 place all (omega arith))
    ∙ ap (λ (back : List Slot). sublist slots 0 place ++ back) (flagged_slots-sliced flags values place rest all (omega arith))
    ∙ front_and_back slots place rest (omega arith)

-- ---- rows

pub rows_of-flagged_slots : (flags : Option (List Bool)) (values : List (List ℕ)) → AreFlagsOf (length values) flags → rows_of (flagged_slots flags values) ≡ optional_values (given_bits flags) values
unfolding flagged_slots
rows_of-flagged_slots flags values all =
    rows_of-slots_by (flags_of (length values) flags) values (length-flags_of flags (length values) all)
    ∙ sym (optional_values-flags flags values all)

valid-slots : (flags : List Bool) (values : List (List ℕ)) → length flags ≡ length values → filter_map row_of (slots_by flags values) ≡ valid_values flags values
valid-slots [] values same = refl
valid-slots (flag ∷ flags) [] same = absurd (omega arith)
valid-slots (true ∷ flags) (bytes ∷ values) same = ap (λ rest. bytes ∷ rest) (valid-slots flags values (omega arith))
valid-slots (false ∷ flags) (bytes ∷ values) same = valid-slots flags values (omega arith)

pub valid_rows-flagged_slots : (flags : Option (List Bool)) (values : List (List ℕ)) → AreFlagsOf (length values) flags → filter_map row_of (flagged_slots flags values) ≡ valid_values (flags_of (length values) flags) values
unfolding flagged_slots
valid_rows-flagged_slots flags values all =
    valid-slots (flags_of (length values) flags) values (length-flags_of flags (length values) all)

-- ---- null slots

null_slots : (slots : List Slot) → count_by (λ (slot : Slot). not slot.valid) slots ≡ count_by not (map (λ (slot : Slot). slot.valid) slots)
null_slots [] = refl
null_slots (slot ∷ slots) =
    let here = sum_by-cons (λ (flag : Bool). cond (not flag) 1 0) slot.valid (map (λ (s : Slot). s.valid) slots) in
    let there = sum_by-cons (λ (s : Slot). cond (not s.valid) 1 0) slot slots in
    there ∙ ap (λ (n : ℕ). cond (not slot.valid) 1 0 + n) (null_slots slots) ∙ sym here

pub nulls-flagged_slots : (flags : Option (List Bool)) (values : List (List ℕ)) → AreFlagsOf (length values) flags → count_by (λ (slot : Slot). not slot.valid) (flagged_slots flags values) ≡ count_by not (given_bits flags)
nulls-flagged_slots flags values all =
    null_slots (flagged_slots flags values)
    ∙ ap (count_by not) (flags-flagged_slots flags values all)
    ∙ sym (count-given flags (length values))

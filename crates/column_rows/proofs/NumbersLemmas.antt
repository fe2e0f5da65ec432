-- Numbers of rows of 8 bytes, and rows of 8 bytes of numbers.
use Rattle.std.proofs.Common.{◌≡◌, ℕ, ◌+◌, ◌*◌, ◌/◌, ◌^◌, ◌<◌, ℤ, Bool, true, false, List, [], ◌∷◌, ◌++◌, length, map, take, get_or, Option, None, refl, sym, ◌∙◌, ap, subst, arith, append_assoc}
use Rattle.std.specs.List.{list_all, concat}
use Rattle.std.specs.Simd.{first_chunks}
use Rattle.std.specs.Int.{w64, cast_signed, cast_unsigned, to_le_bytes, from_le_bytes}
use Rattle.std.proofs.Math.Nat.{mul-div_cancel}
use Rattle.std.proofs.lemmas.Int.{of_z-to_z}
use Rattle.std.proofs.lemmas.List.{take_more, map-append, append-nil, length-append}
use Rattle.std.proofs.lemmas.List.Folds.{list_all_at, concat-append}
use Rattle.std.proofs.lemmas.Nat.{le_bytes_8}
use Rattle.column_base.specs.declared.datatypes.ArrowDataType.{ArrowDataType}
use Rattle.column_base.specs.Kinds.{Slot}
use Rattle.column_base.specs.Native.{signed_bytes}
use Rattle.column_storage.specs.Slots.{flagged_slots}
use Rattle.column_storage.specs.Validity.{AreFlagsOf}
use Rattle.column_fixed.specs.Slots.{fixed_lists, fixed_slots, AreSoundFixed}
use Rattle.column_fixed.specs.Rows.{is_of_width, slot_of}
use Rattle.column_primitive.specs.Numbers.{NumberLists, NumberArray, number_lists, number_slots, AreSoundNumbers}
use Rattle.column_primitive.specs.Rows.{no_numbers}

-- ---- 8 bytes and the number that they are

-- 8 bytes are a number of 64 bits
read_below : (bytes : List ℕ) → ((i : ℕ) → get_or bytes i 0 < 256) → from_le_bytes w64 bytes < 2 ^ 64
read_below bytes small =
    let b0 = small 0 in
    let b1 = small 1 in
    let b2 = small 2 in
    let b3 = small 3 in
    let b4 = small 4 in
    let b5 = small 5 in
    let b6 = small 6 in
    let b7 = small 7 in
    omega arith

-- the bytes of the number that bytes are read as, also where it was cast there and back
pub bytes_back : (bytes : List ℕ) (x : ℤ) → length bytes ≡ 8 → ((i : ℕ) → get_or bytes i 0 < 256) → x ≡ cast_signed w64 (from_le_bytes w64 bytes) → signed_bytes w64 (cast_signed w64 (cast_unsigned w64 x)) ≡ bytes
bytes_back bytes x size small is =
    let n = from_le_bytes w64 bytes in
    let back : cast_unsigned w64 (cast_signed w64 n) ≡ n = of_z-to_z w64 n (read_below bytes small) in
    ap (λ (y : ℤ). signed_bytes w64 (cast_signed w64 (cast_unsigned w64 y))) is
    ∙ ap (λ (m : ℕ). signed_bytes w64 (cast_signed w64 m)) back
    ∙ ap (to_le_bytes w64) back
    ∙ le_bytes_8 bytes n size small refl

-- ---- a number of each row

-- a row of the list is of the width
pub row_fits : (width : ℕ) (rows : List (Option (List ℕ))) (i : ℕ) (row : Option (List ℕ)) → list_all (is_of_width width) rows ≡ true → i < length rows → row ≡ get_or rows i None → is_of_width width row ≡ true
row_fits width rows i row all within is = ap (is_of_width width) is ∙ here (is_of_width width (get_or rows i None)) refl
  where
    here : (b : Bool) → is_of_width width (get_or rows i None) ≡ b → b ≡ true
    here true same = refl
    here false same = let none = list_all_at (is_of_width width) rows i None within same in sym none ∙ all

-- a slot more
pub slot_added : (old new next : List Slot) (rows : List (Option (List ℕ))) (i : ℕ) (row : Option (List ℕ)) (slot : Slot) → i < length rows → row ≡ get_or rows i None
    → new ≡ old ++ map (slot_of 8) (take i rows) → next ≡ new ++ slot ∷ [] → slot ≡ slot_of 8 row
    → next ≡ old ++ map (slot_of 8) (take (i + 1) rows)
slot_added old new next rows i row slot within is before added same =
    added
    ∙ ap (λ (slots : List Slot). slots ++ slot ∷ []) before
    ∙ append_assoc old (map (slot_of 8) (take i rows)) (slot ∷ [])
    ∙ ap (λ (s : Slot). old ++ (map (slot_of 8) (take i rows) ++ s ∷ [])) (same ∙ ap (slot_of 8) is)
    ∙ ap (λ (slots : List Slot). old ++ slots) (sym (map-append (slot_of 8) (take i rows) (get_or rows i None ∷ [])) ∙ ap (map (slot_of 8)) (sym (take_more rows i None within)))

-- numbers without slots
none_are : number_slots (signed_bytes w64) (number_lists [] None) ≡ []
unfolding number_slots flagged_slots
none_are = refl

-- the array of numbers that were added to lists without slots
pub numbers_made : (dtype : ArrowDataType) (rows : List (Option (List ℕ))) (old new made : NumberArray ℤ) → old ≡ no_numbers dtype
    → (new.dtype ≡ old.dtype) × (number_slots (signed_bytes w64) new.lists ≡ number_slots (signed_bytes w64) old.lists ++ map (slot_of 8) rows)
    → (made.dtype ≡ new.dtype) × (number_slots (signed_bytes w64) made.lists ≡ number_slots (signed_bytes w64) new.lists)
    → (made.dtype ≡ dtype) × (number_slots (signed_bytes w64) made.lists ≡ map (slot_of 8) rows)
numbers_made dtype rows old new made start added frozen = (
  frozen.0 ∙ added.0 ∙ ap (λ (array : NumberArray ℤ). array.dtype) start,
  frozen.1
      ∙ added.1
      ∙ ap (λ (array : NumberArray ℤ). number_slots (signed_bytes w64) array.lists ++ map (slot_of 8) rows) start
      ∙ ap (λ (slots : List Slot). slots ++ map (slot_of 8) rows) none_are,
)

-- ---- the bytes of each number

bytes_more : (x : ℤ) (xs : List ℤ) → length (concat (map (signed_bytes w64) (x ∷ xs))) ≡ 8 + length (concat (map (signed_bytes w64) xs))
bytes_more x xs = length-append (signed_bytes w64 x) (concat (map (signed_bytes w64) xs))

pub bytes_are : (numbers : List ℤ) → length (concat (map (signed_bytes w64) numbers)) ≡ length numbers * 8
bytes_are [] = omega arith
bytes_are (x ∷ xs) = let more = bytes_more x xs in let rest = bytes_are xs in omega arith

pub pieces_are : (numbers : List ℤ) → first_chunks 8 (length numbers) (concat (map (signed_bytes w64) numbers)) ≡ map (signed_bytes w64) numbers
pieces_are [] = refl
pieces_are (x ∷ xs) = ap (λ (pieces : List (List ℕ)). signed_bytes w64 x ∷ pieces) (pieces_are xs)

count_is : (numbers : List ℤ) → length (concat (map (signed_bytes w64) numbers)) / 8 ≡ length numbers
count_is numbers = ap (λ (n : ℕ). n / 8) (bytes_are numbers) ∙ mul-div_cancel (length numbers) (omega arith)

pub bytes_sound : (numbers : List ℤ) (flags : Option (List Bool)) → AreSoundNumbers (number_lists numbers flags) → AreSoundFixed (fixed_lists 8 (concat (map (signed_bytes w64) numbers)) flags)
bytes_sound numbers flags sound = record {
  positive = omega arith;
  whole = ap (λ (n : ℕ). n * 8) (count_is numbers) ∙ sym (bytes_are numbers);
  flagged = subst (λ (n : ℕ). AreFlagsOf n flags) (sym (count_is numbers)) sound.flagged;
}

pub same_slots : (numbers : List ℤ) (flags : Option (List Bool)) → fixed_slots (fixed_lists 8 (concat (map (signed_bytes w64) numbers)) flags) ≡ number_slots (signed_bytes w64) (number_lists numbers flags)
unfolding fixed_slots number_slots
same_slots numbers flags =
    ap (λ (n : ℕ). flagged_slots flags (first_chunks 8 n (concat (map (signed_bytes w64) numbers)))) (count_is numbers)
    ∙ ap (flagged_slots flags) (pieces_are numbers)

-- the lists of 8 bytes a number are sound, and mean the same slots
pub bytes_of_lists : (lists : NumberLists ℤ) (numbers : List ℤ) (values : List ℕ) (flags : Option (List Bool)) → AreSoundNumbers lists → numbers ≡ lists.numbers → values ≡ concat (map (signed_bytes w64) numbers) → flags ≡ lists.flags
    → AreSoundFixed (fixed_lists 8 values flags) × (fixed_slots (fixed_lists 8 values flags) ≡ number_slots (signed_bytes w64) lists)
bytes_of_lists lists numbers values flags sound numbers_are values_are flags_are =
    let bytes = concat (map (signed_bytes w64) lists.numbers) in
    let same : fixed_lists 8 values flags ≡ fixed_lists 8 bytes lists.flags =
    ap (λ (vs : List ℕ). fixed_lists 8 vs flags) (values_are ∙ ap (λ (ns : List ℤ). concat (map (signed_bytes w64) ns)) numbers_are)
    ∙ ap (fixed_lists 8 bytes) flags_are in
    (subst AreSoundFixed (sym same) (bytes_sound lists.numbers lists.flags sound), ap fixed_slots same ∙ same_slots lists.numbers lists.flags)

-- one number more
pub bytes_next : (numbers : List ℤ) (i : ℕ) (x : ℤ) (old new : List ℕ) → i < length numbers → x ≡ get_or numbers i x → old ≡ concat (map (signed_bytes w64) (take i numbers)) → new ≡ old ++ signed_bytes w64 x → new ≡ concat (map (signed_bytes w64) (take (i + 1) numbers))
bytes_next numbers i x old new within is before added =
    let more : take (i + 1) numbers ≡ take i numbers ++ x ∷ [] = take_more numbers i x within ∙ ap (λ (y : ℤ). take i numbers ++ y ∷ []) (sym is) in
    let pieces : map (signed_bytes w64) (take (i + 1) numbers) ≡ map (signed_bytes w64) (take i numbers) ++ signed_bytes w64 x ∷ [] = ap (map (signed_bytes w64)) more ∙ map-append (signed_bytes w64) (take i numbers) (x ∷ []) in
    added
    ∙ ap (λ (bytes : List ℕ). bytes ++ signed_bytes w64 x) before
    ∙ ap (λ (bytes : List ℕ). concat (map (signed_bytes w64) (take i numbers)) ++ bytes) (sym (append-nil (signed_bytes w64 x)))
    ∙ sym (concat-append (map (signed_bytes w64) (take i numbers)) (signed_bytes w64 x ∷ []))
    ∙ ap concat (sym pieces)

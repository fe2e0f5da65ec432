-- Rows that are read one by one.
use Rattle.std.proofs.Common.{◌≡◌, ℕ, ◌+◌, ◌-◌, ◌<◌, ◌≤◌, ℤ, pos, Bool, true, false, List, [], ◌∷◌, length, map, take, drop, get_or, Option, Some, None, refl, sym, ◌∙◌, ap, arith}
use Rattle.std.specs.Prelude.{◌&&◌, nat_lt, ◌==◌, ◌^◌, option_map, slice_index_or}
use Rattle.std.specs.Int.{w64}
use Rattle.std.specs.List.{list_all}
use Rattle.std.proofs.lemmas.List.{length-map, get_or-map, take_all, drop_more, at_drop_all}
use Rattle.std.proofs.lemmas.List.Folds.{list_all_more, list_all_at}
use Rattle.std.proofs.lemmas.List.Sums.{sum_by-cons}
use Rattle.column_base.specs.Kinds.{Slot}
use Rattle.column_base.specs.Native.{signed_bytes}
use Rattle.column_base.specs.Slots.{slot_at, values_of, row_of, rows_of}
use Rattle.column_fixed.specs.Rows.{is_of_width}
use Rattle.column_primitive.specs.Numbers.{NumberLists, number_slots}
use Rattle.column_rows.specs.Rows.{given_rows, bytes_in_rows, is_of_view}

-- ---- the rows of slots

pub rows_counted : (slots : List Slot) → length (rows_of slots) ≡ length slots
rows_counted slots = length-map slots row_of

pub row_at : (slots : List Slot) (i : ℕ) → i < length (rows_of slots) → slice_index_or (rows_of slots) i None ≡ row_of (slot_at slots i)
row_at slots i within = get_or-map row_of slots i (record { valid = true; bytes = [] }) None (omega (arith, rows_counted slots))

pub row_is : (slots : List Slot) (i : ℕ) (row : Option (List ℕ)) → i < length (rows_of slots) → row ≡ row_of (slot_at slots i) → row ≡ slice_index_or (rows_of slots) i None
row_is slots i row within is = is ∙ sym (row_at slots i within)

pub length_is : (slots : List Slot) (i : ℕ) (row : Option (List ℕ)) → i < length (rows_of slots) → row ≡ row_of (slot_at slots i) → option_map length row ≡ option_map length (slice_index_or (rows_of slots) i None)
length_is slots i row within is = ap (option_map length) (row_is slots i row within is)

-- the bytes of a number are eight
number_length : (x : ℤ) → length (signed_bytes w64 x) ≡ 8
number_length x = refl

eight_bytes : (lists : NumberLists ℤ) (i : ℕ) → values_of (number_slots (signed_bytes w64) lists) ≡ map (signed_bytes w64) lists.numbers → i < length (number_slots (signed_bytes w64) lists)
    → length (slot_at (number_slots (signed_bytes w64) lists) i).bytes ≡ 8
eight_bytes lists i all within =
    let slots = number_slots (signed_bytes w64) lists in
    let count : length slots ≡ length lists.numbers = sym (length-map slots (λ (slot : Slot). slot.bytes)) ∙ ap length all ∙ length-map lists.numbers (signed_bytes w64) in
    let here : (slot_at slots i).bytes ≡ signed_bytes w64 (get_or lists.numbers i (pos 0)) =
    sym (get_or-map (λ (slot : Slot). slot.bytes) slots i (record { valid = true; bytes = [] }) [] within)
    ∙ ap (λ (values : List (List ℕ)). get_or values i []) all
    ∙ get_or-map (signed_bytes w64) lists.numbers i (pos 0) [] (omega arith) in
    ap length here ∙ number_length (get_or lists.numbers i (pos 0))

length_valid : (valid : Bool) (bytes : List ℕ) → valid ≡ true → length bytes ≡ 8 → Some 8 ≡ option_map length (row_of (record { valid = valid; bytes = bytes }))
length_valid true bytes is eight = ap Some (sym eight)
length_valid false bytes is eight = absurd (cc)

pub number_row : (lists : NumberLists ℤ) (i : ℕ) → values_of (number_slots (signed_bytes w64) lists) ≡ map (signed_bytes w64) lists.numbers → i < length (rows_of (number_slots (signed_bytes w64) lists))
    → (slot_at (number_slots (signed_bytes w64) lists) i).valid ≡ true
    → Some 8 ≡ option_map length (slice_index_or (rows_of (number_slots (signed_bytes w64) lists)) i None)
number_row lists i all within valid =
    let slots = number_slots (signed_bytes w64) lists in
    let slot = slot_at slots i in
    length_valid slot.valid slot.bytes valid (eight_bytes lists i all (omega (arith, rows_counted slots)))
    ∙ sym (ap (option_map length) (row_at slots i within))

pub ruleset rows_of_slots = (rows_counted, row_is, length_is)

-- ---- a test of all rows

module _ (test : Option (List ℕ) → Bool) (rows : List (Option (List ℕ))) where
  -- the first i rows pass the test
  abbrev pub Pass : ℕ → Type 0
  Pass i = list_all test (take i rows) ≡ true

  pub pass_more : (i : ℕ) → i < length rows → test (slice_index_or rows i None) ≡ true → Pass i → Pass (i + 1)
  pass_more i within here pass = list_all_more test rows i None within ∙ ap (λ (b : Bool). b && test (slice_index_or rows i None)) pass ∙ here

  pub pass_end : (i : ℕ) → length rows ≤ i → Pass i → true ≡ list_all test rows
  pass_end i past pass = sym pass ∙ ap (list_all test) (take_all i rows past)

  pub refused : (i : ℕ) → i < length rows → test (slice_index_or rows i None) ≡ false → false ≡ list_all test rows
  refused i within here = sym (list_all_at test rows i None within here)

-- what the length of a row tells of it
pub width_missing : (width : ℕ) (row : Option (List ℕ)) → None ≡ option_map length row → is_of_width width row ≡ true
width_missing width None told = refl
width_missing width (Some bytes) told = absurd (cc)

pub width_given : (width n : ℕ) (row : Option (List ℕ)) → Some n ≡ option_map length row → is_of_width width row ≡ (n == width)
width_given width n None told = absurd (cc)
width_given width n (Some bytes) told = let same : n ≡ length bytes = cc in rw same refl

pub view_missing : (row : Option (List ℕ)) → None ≡ option_map length row → is_of_view row ≡ true
view_missing None told = refl
view_missing (Some bytes) told = absurd (cc)

pub view_given : (n : ℕ) (row : Option (List ℕ)) → Some n ≡ option_map length row → is_of_view row ≡ nat_lt n (2 ^ 32)
view_given n None told = absurd (cc)
view_given n (Some bytes) told = let same : n ≡ length bytes = cc in rw same refl

-- ---- room for the bytes of rows

-- how many bytes a row has, none where it is missing
abbrev size : Option (List ℕ) → ℕ
size None = 0
size (Some bytes) = length bytes

size_missing : (row : Option (List ℕ)) → None ≡ option_map length row → size row ≡ 0
size_missing None told = refl
size_missing (Some bytes) told = absurd (cc)

size_given : (n : ℕ) (row : Option (List ℕ)) → Some n ≡ option_map length row → size row ≡ n
size_given n None told = absurd (cc)
size_given n (Some bytes) told = let same : n ≡ length bytes = cc in sym same

bytes-cons : (row : Option (List ℕ)) (rows : List (Option (List ℕ))) → bytes_in_rows (row ∷ rows) ≡ size row + bytes_in_rows rows
bytes-cons None rows = omega arith
bytes-cons (Some bytes) rows = sum_by-cons (λ k. k) (length bytes) (map length (given_rows rows))

-- room that is left for the rows from i on
abbrev pub Leaves : List (Option (List ℕ)) → ℕ → ℕ → ℕ → Type 0
Leaves rows room i left = room + bytes_in_rows (drop i rows) ≡ left + bytes_in_rows rows

next_row : (rows : List (Option (List ℕ))) (i : ℕ) → i < length rows → bytes_in_rows (drop i rows) ≡ size (slice_index_or rows i None) + bytes_in_rows (drop (i + 1) rows)
next_row rows i within = ap bytes_in_rows (drop_more rows i None within) ∙ bytes-cons (slice_index_or rows i None) (drop (i + 1) rows)

pub leaves_start : (rows : List (Option (List ℕ))) (room : ℕ) → Leaves rows room 0 room
leaves_start rows room = refl

pub leaves_missing : (rows : List (Option (List ℕ))) (room i left : ℕ) → i < length rows → None ≡ option_map length (slice_index_or rows i None) → Leaves rows room i left → Leaves rows room (i + 1) left
leaves_missing rows room i left within none leaves =
    let next = next_row rows i within in
    let own = size_missing (slice_index_or rows i None) none in
    omega (arith, leaves, next, own)

pub leaves_given : (rows : List (Option (List ℕ))) (room i left n : ℕ) → i < length rows → Some n ≡ option_map length (slice_index_or rows i None) → Leaves rows room i left → n ≤ left → Leaves rows room (i + 1) (left - n)
leaves_given rows room i left n within given leaves fits =
    let next = next_row rows i within in
    let own = size_given n (slice_index_or rows i None) given in
    omega (arith, leaves, next, own)

pub leaves_none : (rows : List (Option (List ℕ))) (room i left n : ℕ) → i < length rows → Some n ≡ option_map length (slice_index_or rows i None) → Leaves rows room i left → left < n → room < bytes_in_rows rows
leaves_none rows room i left n within given leaves past =
    let next = next_row rows i within in
    let own = size_given n (slice_index_or rows i None) given in
    omega (arith, leaves, next, own)

pub leaves_end : (rows : List (Option (List ℕ))) (room i left : ℕ) → length rows ≤ i → Leaves rows room i left → (room - left ≡ bytes_in_rows rows) × (bytes_in_rows rows ≤ room)
leaves_end rows room i left past leaves =
    let none : bytes_in_rows (drop i rows) ≡ 0 = at_drop_all bytes_in_rows rows i past in
    (omega (arith, leaves, none), omega (arith, leaves, none))

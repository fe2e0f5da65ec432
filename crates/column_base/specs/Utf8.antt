-- Unicode, table 3-7, "Well-Formed UTF-8 Byte Sequences".
use Rattle.std.specs.Prelude.{◌≡◌, ℕ, Bool, true, false, ◌&&◌, ◌||◌, nat_le, if◌then◌else◌, List, [], ◌∷◌, Option, Some, None}

abbrev pub is_between : ℕ → ℕ → ℕ → Bool
is_between least most byte = nat_le least byte && nat_le byte most

-- a byte from 80 to BF, which begins no sequence of the table
abbrev pub is_continuation_byte : ℕ → Bool
is_continuation_byte = is_between 0x80 0xBF

-- The ranges, least and greatest, of the bytes that follow a first byte. None where no sequence begins so.
abbrev pub following_ranges : ℕ → Option (List (ℕ × ℕ))
following_ranges first =
    if nat_le first 0x7F then Some []
    else if is_between 0xC2 0xDF first then Some ((0x80, 0xBF) ∷ [])
    else if is_between 0xE0 0xE0 first then Some ((0xA0, 0xBF) ∷ (0x80, 0xBF) ∷ [])
    else if is_between 0xE1 0xEC first || is_between 0xEE 0xEF first then Some ((0x80, 0xBF) ∷ (0x80, 0xBF) ∷ [])
    else if is_between 0xED 0xED first then Some ((0x80, 0x9F) ∷ (0x80, 0xBF) ∷ [])
    else if is_between 0xF0 0xF0 first then Some ((0x90, 0xBF) ∷ (0x80, 0xBF) ∷ (0x80, 0xBF) ∷ [])
    else if is_between 0xF1 0xF3 first then Some ((0x80, 0xBF) ∷ (0x80, 0xBF) ∷ (0x80, 0xBF) ∷ [])
    else if is_between 0xF4 0xF4 first then Some ((0x80, 0x8F) ∷ (0x80, 0xBF) ∷ (0x80, 0xBF) ∷ [])
    else None

-- one byte in each of the ranges, and after them a row of whole sequences
abbrev pub is_well_formed_after : Option (List (ℕ × ℕ)) → List ℕ → Bool
is_well_formed_after None bytes = false
is_well_formed_after (Some []) [] = true
is_well_formed_after (Some []) (byte ∷ bytes) = is_well_formed_after (following_ranges byte) bytes
is_well_formed_after (Some (range ∷ ranges)) [] = false
is_well_formed_after (Some (range ∷ ranges)) (byte ∷ bytes) = is_between range.0 range.1 byte && is_well_formed_after (Some ranges) bytes

-- a row of sequences of the table, possibly empty
abbrev pub is_well_formed_utf8 : List ℕ → Bool
is_well_formed_utf8 = is_well_formed_after (Some [])

abbrev pub IsWellFormedUtf8 : List ℕ → Type 0
IsWellFormedUtf8 bytes = is_well_formed_utf8 bytes ≡ true

-- each byte string is UTF-8 by itself
abbrev pub are_well_formed_utf8 : List (List ℕ) → Bool
are_well_formed_utf8 [] = true
are_well_formed_utf8 (bytes ∷ texts) = is_well_formed_utf8 bytes && are_well_formed_utf8 texts

-- Arrow columnar format, "Data Types": what a slot may hold. A text is UTF-8, a byte string is any bytes.
abbrev pub CanHold : Bool → List ℕ → Type 0
CanHold is_text bytes = is_text ≡ true → IsWellFormedUtf8 bytes

-- Lists of truth values, and what they say of the values beside them.
use Rattle.std.specs.Prelude.{ℕ, ◌+◌, min, Bool, true, ◌||◌, not, List, [], ◌∷◌, ◌++◌, replicate, slice_get, slice_set, count_by, Option, Some, None, option_map, ◌==◌, if◌then◌else◌}
use Rattle.std.specs.Option.{option_and_then, option_to_list}
use Rattle.column_base.specs.Lists.{sublist}
use Rattle.column_base.specs.Pushes.{Growth}

-- This library's own: a growing list of truth values, and how many more it takes without further memory.
pub record GrowingBits : Type 0 where
  pub bits : List Bool
  pub spare : ℕ

-- Arrow columnar format, "Validity bitmaps": a bit for each of n values, set where the value is valid. Where no
-- value is null, the bitmap need not be there.
abbrev pub flags_of : ℕ → Option (List Bool) → List Bool
flags_of n None = replicate n true
flags_of n (Some flags) = flags

abbrev pub kept_flags : List Bool → Option (List Bool)
kept_flags flags = if count_by not flags == 0 then None else Some flags

-- the flags of n slots from a place on, where some of them is false
abbrev pub sliced_flags : Option (List Bool) → ℕ → ℕ → Option (List Bool)
sliced_flags None from n = None
sliced_flags (Some flags) from n = kept_flags (sublist flags from n)

-- the flags of an array: none where no slot is null
abbrev pub frozen_flags : Option (List Bool) → Option (List Bool)
frozen_flags flags = option_and_then kept_flags flags

-- how truth values take one more: none is refused
abbrev pub bit_growth : Growth (List Bool) Bool
bit_growth = record { fault = λ bits bit. None; pushed = λ bits bit. bits ++ bit ∷ [] }

-- the flags of a growing validity, where one is given
abbrev pub bits_given : Option GrowingBits → Option (List Bool)
bits_given validity = option_map (λ bits. bits.bits) validity

-- how many more slots are taken without further memory, where a spare of other lists bounds them too
abbrev pub spare_beside : Option GrowingBits → ℕ → ℕ
spare_beside None spare = spare
spare_beside (Some bits) spare = min bits.spare spare

-- The flags of n slots and of one more. Flags are given from the first null on.
abbrev pub pushed_flag : ℕ → Option (List Bool) → Bool → Option (List Bool)
pushed_flag n None true = None
pushed_flag n flags bit = Some (flags_of n flags ++ bit ∷ [])

-- the flags of n slots, and after them those of m
abbrev pub joined_flags : ℕ → Option (List Bool) → ℕ → Option (List Bool) → Option (List Bool)
joined_flags n None m None = None
joined_flags n flags m others = Some (flags_of n flags ++ flags_of m others)

-- the flags of n slots that are alike, given where they are null
abbrev pub constant_flags : ℕ → Bool → Option (List Bool)
constant_flags n bit = if bit || n == 0 then None else Some (replicate n bit)

-- The flags of n slots, where one has another flag than it had. Flags are given from the first null on.
abbrev pub changed_flag : ℕ → Option (List Bool) → ℕ → Bool → Option (List Bool)
changed_flag n None i true = None
changed_flag n flags i bit = Some (slice_set (flags_of n flags) i bit)

-- the places of set bits, where the first bit has the given place
abbrev pub set_places : ℕ → List Bool → List ℕ
set_places at [] = []
set_places at (bit ∷ bits) = if bit then at ∷ set_places (at + 1) bits else set_places (at + 1) bits

-- the elements at places, where a place past the end has none
abbrev pub at_places : {X : Type 0} → List X → List ℕ → List X
at_places xs [] = []
at_places xs (i ∷ places) = option_to_list (slice_get xs i) ++ at_places xs places

-- the values whose bit is set
abbrev pub valid_values : {X : Type 0} → List Bool → List X → List X
valid_values [] xs = []
valid_values (bit ∷ bits) [] = []
valid_values (bit ∷ bits) (x ∷ xs) = if bit then x ∷ valid_values bits xs else valid_values bits xs

-- the bits that are given, if any
abbrev pub given_bits : Option (List Bool) → List Bool
given_bits None = []
given_bits (Some bits) = bits

-- A value whose bit is not set is null. A value without a bit is valid.
abbrev pub optional_values : {X : Type 0} → List Bool → List X → List (Option X)
optional_values bits [] = []
optional_values [] (x ∷ xs) = Some x ∷ optional_values [] xs
optional_values (bit ∷ bits) (x ∷ xs) = (if bit then Some x else None) ∷ optional_values bits xs

-- Ranges of signed types.
use Rattle.std.specs.Prelude.{ℕ, ◌≤◌, ℤ, pos, negsuc, Bool, true, false}

-- Two's complement: the values of a signed type with this greatest value.
abbrev pub LiesWithin : ℕ → ℤ → Type 0
LiesWithin greatest (pos n) = n ≤ greatest
LiesWithin greatest (negsuc n) = n ≤ greatest

-- Arrow columnar format, "Variable-size Binary Layout": offsets are signed, of 64 bits where they are large, and of 32
-- else. The greatest of them.
abbrev pub greatest_offset : Bool → ℕ
greatest_offset false = 2147483647
greatest_offset true = 9223372036854775807

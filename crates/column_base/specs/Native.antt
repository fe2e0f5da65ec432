-- Arrow columnar format, "Byte Order": numbers are little-endian. Signed ones are in two's complement.
use Rattle.std.specs.Prelude.{ℕ, List, ℤ}
use Rattle.std.specs.Int.{Width, cast_signed, cast_unsigned, to_le_bytes, from_le_bytes}

-- the bytes of a signed number, the lowest first
abbrev pub signed_bytes : Width → ℤ → List ℕ
signed_bytes w x = to_le_bytes w (cast_unsigned w x)

-- the signed number that bytes are read as
abbrev pub signed_of : Width → List ℕ → ℤ
signed_of w bytes = cast_signed w (from_le_bytes w bytes)

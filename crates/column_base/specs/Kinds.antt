-- Slots, and the kinds of columns, as plain data.
use Rattle.std.specs.Prelude.{ℕ, Bool, List}

-- Arrow columnar format, "Validity bitmaps": a slot has a validity flag, where true is valid, and its value,
-- here as bytes. A null slot keeps its bytes.
pub record Slot : Type 0 where
  pub valid : Bool
  pub bytes : List ℕ

-- The kinds of columns, by their layouts in the Arrow columnar format: "Fixed-size Primitive Layout" (fixed-size
-- binary of a width, and signed numbers of 64 bits), "Variable-size Binary Layout" (binary and text, with offsets
-- of 32 or 64 bits) and "Variable-size Binary View Layout" (binary and text).
pub data ColumnKind : Type 0 where
  Fixed : ℕ → ColumnKind
  Int64 : ColumnKind
  Binary32 : ColumnKind
  Binary64 : ColumnKind
  Utf8_32 : ColumnKind
  Utf8_64 : ColumnKind
  BinView : ColumnKind
  Utf8View : ColumnKind

-- The data types of byte strings of one width. Arrow columnar format, "Data Types".
use Rattle.std.specs.Prelude.{ℕ, Option, Some, None}
use Rattle.column_base.specs.declared.errors.Cause.{Cause}
use Rattle.column_base.specs.declared.errors.Cause.TheVariants.{WrongDataType}
use Rattle.column_base.specs.declared.datatypes.ArrowDataType.{ArrowDataType}
use Rattle.column_base.specs.declared.datatypes.ArrowDataType.TheVariants as types

-- the data type of byte strings of this width
abbrev pub fixed_type : ℕ → ArrowDataType
fixed_type width = types.FixedSizeBinary width

-- the width that a data type tells; 0 where it tells none
abbrev pub width_of : ArrowDataType → ℕ
width_of (types.FixedSizeBinary width) = width
width_of other = 0

-- a data type that lies in another physical type
abbrev pub type_fault : ArrowDataType → Option Cause
type_fault (types.FixedSizeBinary width) = None
type_fault other = Some WrongDataType

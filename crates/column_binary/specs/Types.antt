-- The data types of byte strings and of texts with offsets.
use Rattle.std.specs.Prelude.{Bool, true, false, not}
use Rattle.std.specs.declared.option.Option.{Option}
use Rattle.column_base.specs.declared.errors.Cause.{Cause}
use Rattle.column_base.specs.declared.errors.Cause.TheVariants.{WrongDataType}
use Rattle.column_base.specs.declared.datatypes.ArrowDataType.{ArrowDataType}
use Rattle.column_base.specs.declared.datatypes.ArrowDataType.TheVariants as types
use Rattle.column_base.specs.declared.datatypes.PhysicalType.{PhysicalType}
use Rattle.column_base.specs.declared.datatypes.PhysicalType.TheVariants as physical
use Rattle.column_base.specs.DataTypes.{physical_type}
use Rattle.column_base.specs.Answers.{cause_if}

-- Arrow columnar format, "Data Types": offsets have 64 bits in the large types, and 32 else; of texts, or of byte
-- strings.
abbrev pub offset_type : Bool → Bool → ArrowDataType
offset_type false false = types.Binary
offset_type false true = types.Utf8
offset_type true false = types.LargeBinary
offset_type true true = types.LargeUtf8

-- the physical type in which it lies
abbrev pub is_offset_type : Bool → Bool → PhysicalType → Bool
is_offset_type false false physical.Binary = true
is_offset_type false true physical.Utf8 = true
is_offset_type true false physical.LargeBinary = true
is_offset_type true true physical.LargeUtf8 = true
is_offset_type large text other = false

-- a data type that lies in another physical type
abbrev pub type_fault : Bool → Bool → ArrowDataType → Option Cause
type_fault large text dtype = cause_if (not (is_offset_type large text (physical_type dtype))) WrongDataType

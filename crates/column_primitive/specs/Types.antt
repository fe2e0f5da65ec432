-- The data types of numbers of a fixed number of bytes.
use Rattle.std.specs.Prelude.{ℕ, Bool, false, not, ◌==◌}
use Rattle.std.specs.declared.option.Option.{Option}
use Rattle.column_base.specs.declared.errors.Cause.{Cause}
use Rattle.column_base.specs.declared.errors.Cause.TheVariants.{WrongDataType}
use Rattle.column_base.specs.declared.datatypes.ArrowDataType.{ArrowDataType}
use Rattle.column_base.specs.declared.datatypes.PrimitiveType.{PrimitiveType}
use Rattle.column_base.specs.declared.datatypes.PrimitiveType.TheVariants as primitives
use Rattle.column_base.specs.declared.datatypes.PhysicalType.{PhysicalType}
use Rattle.column_base.specs.declared.datatypes.PhysicalType.TheVariants as physical
use Rattle.column_base.specs.DataTypes.{physical_type}
use Rattle.column_base.specs.Answers.{cause_if}

-- the place of a type of numbers among all of them
abbrev pub place_of : PrimitiveType → ℕ
place_of primitives.Int8 = 0
place_of primitives.Int16 = 1
place_of primitives.Int32 = 2
place_of primitives.Int64 = 3
place_of primitives.Int128 = 4
place_of primitives.UInt8 = 5
place_of primitives.UInt16 = 6
place_of primitives.UInt32 = 7
place_of primitives.UInt64 = 8
place_of primitives.DaysMs = 9
place_of primitives.MonthDayNano = 10

-- slots lie in memory as numbers of this type
abbrev pub is_primitive : PrimitiveType → PhysicalType → Bool
is_primitive primitive (physical.Primitive found) = place_of found == place_of primitive
is_primitive primitive other = false

-- a data type that lies in another physical type than the numbers of this type
abbrev pub number_type_fault : PrimitiveType → ArrowDataType → Option Cause
number_type_fault primitive dtype = cause_if (not (is_primitive primitive (physical_type dtype))) WrongDataType

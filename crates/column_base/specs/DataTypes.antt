-- Arrow columnar format, "Data Types" and "Physical Memory Layout": in which physical type each data type lies.
use Rattle.column_base.specs.declared.datatypes.IntervalUnit.TheVariants as intervals
use Rattle.column_base.specs.declared.datatypes.PrimitiveType.{PrimitiveType}
use Rattle.column_base.specs.declared.datatypes.PrimitiveType.TheVariants as primitives
use Rattle.column_base.specs.declared.datatypes.ArrowDataType.{ArrowDataType}
use Rattle.column_base.specs.declared.datatypes.ArrowDataType.TheVariants as types
use Rattle.column_base.specs.declared.datatypes.PhysicalType.{PhysicalType}
use Rattle.column_base.specs.declared.datatypes.PhysicalType.TheVariants as physical

-- the data type of plain numbers of a type
abbrev pub default_type : PrimitiveType → ArrowDataType
default_type primitives.Int8 = types.Int8
default_type primitives.Int16 = types.Int16
default_type primitives.Int32 = types.Int32
default_type primitives.Int64 = types.Int64
default_type primitives.Int128 = types.Int128
default_type primitives.UInt8 = types.UInt8
default_type primitives.UInt16 = types.UInt16
default_type primitives.UInt32 = types.UInt32
default_type primitives.UInt64 = types.UInt64
default_type primitives.DaysMs = types.Interval intervals.DayTime
default_type primitives.MonthDayNano = types.Interval intervals.MonthDayNano

-- Dates, times, months and durations are signed numbers of 32 or 64 bits, decimals of 128; the other types have a
-- physical type of their own name.
abbrev pub physical_type : ArrowDataType → PhysicalType
physical_type types.Boolean = physical.Boolean
physical_type types.Int8 = physical.Primitive primitives.Int8
physical_type types.Int16 = physical.Primitive primitives.Int16
physical_type types.Int32 = physical.Primitive primitives.Int32
physical_type types.Int64 = physical.Primitive primitives.Int64
physical_type types.Int128 = physical.Primitive primitives.Int128
physical_type types.UInt8 = physical.Primitive primitives.UInt8
physical_type types.UInt16 = physical.Primitive primitives.UInt16
physical_type types.UInt32 = physical.Primitive primitives.UInt32
physical_type types.UInt64 = physical.Primitive primitives.UInt64
physical_type (types.Timestamp unit) = physical.Primitive primitives.Int64
physical_type types.Date32 = physical.Primitive primitives.Int32
physical_type types.Date64 = physical.Primitive primitives.Int64
physical_type (types.Time32 unit) = physical.Primitive primitives.Int32
physical_type (types.Time64 unit) = physical.Primitive primitives.Int64
physical_type (types.Duration unit) = physical.Primitive primitives.Int64
physical_type (types.Interval intervals.YearMonth) = physical.Primitive primitives.Int32
physical_type (types.Interval intervals.DayTime) = physical.Primitive primitives.DaysMs
physical_type (types.Interval intervals.MonthDayNano) = physical.Primitive primitives.MonthDayNano
physical_type types.Binary = physical.Binary
physical_type types.LargeBinary = physical.LargeBinary
physical_type (types.FixedSizeBinary width) = physical.FixedSizeBinary
physical_type types.Utf8 = physical.Utf8
physical_type types.LargeUtf8 = physical.LargeUtf8
physical_type types.BinaryView = physical.BinaryView
physical_type types.Utf8View = physical.Utf8View
physical_type (types.Decimal digits scale) = physical.Primitive primitives.Int128
physical_type types.Unknown = physical.Unknown

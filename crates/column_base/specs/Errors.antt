-- The names of causes, and the errors that they come in.
use Rattle.std.specs.Prelude.{ℕ, List, codes}
use Rattle.column_base.specs.declared.errors.Cause.{Cause}
use Rattle.column_base.specs.declared.errors.Cause.TheVariants.{OffsetsEmpty, OffsetsNegative, OffsetsNotMonotone, OffsetsExceedValues, OffsetsNotFull, ValidityLength, SizeZero, NotMultiple, InvalidUtf8, CharBoundary, NonZeroPadding, PrefixMismatch, ViewIndex, BufferSlice, WrongDataType, WrongLength, Overflow, KeyNotUsize, KeyOutOfRange, StepRange, WrongKind}
use Rattle.column_base.specs.declared.errors.PolarsError.{PolarsError}
use Rattle.column_base.specs.declared.errors.PolarsError.TheVariants.{ComputeError, OutOfBounds}

-- the text of a cause: this library's own
abbrev pub name_of : Cause → List ℕ
name_of OffsetsEmpty = codes "OffsetsEmpty"
name_of OffsetsNegative = codes "OffsetsNegative"
name_of OffsetsNotMonotone = codes "OffsetsNotMonotone"
name_of OffsetsExceedValues = codes "OffsetsExceedValues"
name_of OffsetsNotFull = codes "OffsetsNotFull"
name_of ValidityLength = codes "ValidityLength"
name_of SizeZero = codes "SizeZero"
name_of NotMultiple = codes "NotMultiple"
name_of InvalidUtf8 = codes "InvalidUtf8"
name_of CharBoundary = codes "CharBoundary"
name_of NonZeroPadding = codes "NonZeroPadding"
name_of PrefixMismatch = codes "PrefixMismatch"
name_of ViewIndex = codes "ViewIndex"
name_of BufferSlice = codes "BufferSlice"
name_of WrongDataType = codes "WrongDataType"
name_of WrongLength = codes "WrongLength"
name_of Overflow = codes "Overflow"
name_of KeyNotUsize = codes "KeyNotUsize"
name_of (KeyOutOfRange key len) = codes "KeyOutOfRange"
name_of StepRange = codes "StepRange"
name_of WrongKind = codes "WrongKind"

-- a view that reaches outside its buffers is out of bounds
abbrev pub error_of : Cause → PolarsError
error_of ViewIndex = OutOfBounds ViewIndex
error_of BufferSlice = OutOfBounds BufferSlice
error_of cause = ComputeError cause

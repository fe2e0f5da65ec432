-- The raw lists of parts and of columns.
use Rattle.std.specs.Prelude.{true, false}
use Rattle.column_binary.specs.Slots.{offset_lists}
use Rattle.column_relayout.specs.declared.columns.AnyArray.{AnyArray}
use Rattle.column_relayout.specs.declared.columns.AnyArray.TheVariants as arrays
use Rattle.column_relayout.specs.declared.columns.RawColumn.{RawColumn}
use Rattle.column_relayout.specs.declared.columns.RawColumn.TheVariants as parts
use Rattle.column_binview.specs.Slots.{view_lists}
use Rattle.column_fixed.specs.Slots.{fixed_lists}
use Rattle.column_primitive.specs.Numbers.{number_lists, number_array}
use Rattle.column_base.specs.declared.datatypes.ArrowDataType.TheVariants as types
use Rattle.column_relayout.specs.Columns.{RawLists, offset_column, view_column, fixed_column, number_column}

-- the raw lists of a column
abbrev pub lists_of : AnyArray → RawLists
lists_of (arrays.Binary32 lists) = offset_column false false lists
lists_of (arrays.Binary64 lists) = offset_column true false lists
lists_of (arrays.Utf8_32 lists) = offset_column false true lists
lists_of (arrays.Utf8_64 lists) = offset_column true true lists
lists_of (arrays.BinView lists) = view_column false lists
lists_of (arrays.Utf8View lists) = view_column true lists
lists_of (arrays.Fixed lists) = fixed_column lists
lists_of (arrays.Int64 array) = number_column array

-- The raw lists of parts. Numbers mean what plain ones of their type do.
abbrev pub lists_of_parts : RawColumn → RawLists
lists_of_parts (parts.Offset32 text offsets values validity) = offset_column false text (offset_lists offsets values validity)
lists_of_parts (parts.Offset64 text offsets values validity) = offset_column true text (offset_lists offsets values validity)
lists_of_parts (parts.View text views buffers validity) = view_column text (view_lists views buffers validity)
lists_of_parts (parts.Fixed width values validity) = fixed_column (fixed_lists width values validity)
lists_of_parts (parts.Int64 numbers validity) = number_column (number_array types.Int64 (number_lists numbers validity))

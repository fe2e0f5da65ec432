-- What an iterator over the rows of a consumed array has left: this library's own.
use Rattle.std.specs.Prelude.{List, Option, slice_range}
use Rattle.std.specs.declared.cmp.PartialEq.{Ghosts as Equality}
use Rattle.column_base.specs.declared.native.NativeType.{Ghosts as Native}
use Rattle.column_primitive.specs.Numbers.{number_rows}
use Rattle.column_primitive.specs.declared.into_iter.PrimitiveIntoIter.{PrimitiveIntoIter}

-- the rows that were not given yet
abbrev pub rows_of_iter : {T : Type 0} {native : Native T} {equality : Equality T} → PrimitiveIntoIter T native equality → List (Option T)
rows_of_iter iter = slice_range (number_rows iter.array.lists) iter.index iter.end

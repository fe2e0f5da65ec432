-- A slot of each row so far was added.
use Rattle.std.proofs.Common.{◌≡◌, ◌++◌, map, take}
use Rattle.std.specs.Int.{w64}
use Rattle.column_base.specs.Native.{signed_bytes}
use Rattle.column_fixed.specs.Rows.{slot_of}
use Rattle.column_primitive.specs.Numbers.{number_slots}
use Rattle.column_rows.proofs.numbers.push_numbers.Given as goal

abbrev pub invariant-loop-i : goal.invariant-loop-i
invariant-loop-i g l = record {
  dtype : l.builder.array.dtype ≡ l.fn.builder.array.dtype;
  slots : number_slots (signed_bytes w64) l.builder.array.lists ≡ number_slots (signed_bytes w64) l.fn.builder.array.lists ++ map (slot_of 8) (take l.i (g.R.RowList.rows l.rows));
}

use Rattle.std.proofs.Common.{◌≡◌, drop}
use Rattle.std.specs.Cmp.Lexicographic.{pointwise}
use Rattle.column_base.specs.Slots.{rows_of}
use Rattle.column_binview.specs.Slots.{view_slots}
use Rattle.column_binview.specs.Rows.{row_eq, rows_eq}
use Rattle.column_binview.proofs.equality.same_rows.Given as goal

abbrev pub invariant-loop-i : goal.invariant-loop-i
invariant-loop-i g l = pointwise row_eq (drop l.i (rows_of (view_slots l.a))) (drop l.i (rows_of (view_slots l.b))) ≡ rows_eq l.a l.b

-- The room that is left for the other rows.
use Rattle.column_rows.proofs.RowsLemmas.{Leaves}
use Rattle.column_rows.proofs.checks.bytes_within.Given as goal

abbrev pub invariant-loop-i : goal.invariant-loop-i
invariant-loop-i g l = Leaves (g.R.RowList.rows l.rows) l.fn.room l.i l.left

-- A view can tell the lengths of the rows so far.
use Rattle.column_rows.specs.Rows.{is_of_view}
use Rattle.column_rows.proofs.RowsLemmas.{Pass}
use Rattle.column_rows.proofs.checks.are_of_view.Given as goal

abbrev pub invariant-loop-i : goal.invariant-loop-i
invariant-loop-i g l = Pass is_of_view (g.R.RowList.rows l.rows) l.i

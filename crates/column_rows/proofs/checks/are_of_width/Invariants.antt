-- The rows so far have the width.
use Rattle.column_fixed.specs.Rows.{is_of_width}
use Rattle.column_rows.proofs.RowsLemmas.{Pass}
use Rattle.column_rows.proofs.checks.are_of_width.Given as goal

abbrev pub invariant-loop-i : goal.invariant-loop-i
invariant-loop-i g l = Pass (is_of_width l.fn.width) (g.R.RowList.rows l.rows) l.i

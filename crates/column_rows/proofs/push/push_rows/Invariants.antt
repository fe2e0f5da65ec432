-- The rows so far were pushed.
use Rattle.column_rows.proofs.PushLemmas.{ArePushed}
use Rattle.column_rows.proofs.push.push_rows.Given as goal

abbrev pub invariant-loop-i : goal.invariant-loop-i
invariant-loop-i g l = ArePushed g.B.Growing.growth g.B.RowBuilder.taken (g.R.RowList.rows l.rows) (g.B.Growing.lists l.fn.builder) (g.B.Growing.lists l.builder) l.i

-- The rows that are left are texts exactly where all are.
use Rattle.column_relayout.proofs.WrittenLemmas.{AreLeft}
use Rattle.column_relayout.proofs.append.are_texts.Given as goal

abbrev pub invariant-loop-i : goal.invariant-loop-i
invariant-loop-i l = AreLeft l.rows l.i

-- The place fits the levels that are left, and comes to where the first one does.
use Rattle.column_offset.proofs.LeavesLemmas.{Descends}
use Rattle.column_offset.proofs.leaf.descend.Given as goal

abbrev pub invariant-loop-level : goal.invariant-loop-level
invariant-loop-level g l = Descends l.levels l.fn.place l.level-index l.at

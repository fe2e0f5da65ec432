-- The column is what the steps so far make of the parts.
use Rattle.column_relayout.specs.Arrays.{lists_of, lists_of_parts}
use Rattle.column_relayout.proofs.PlansLemmas.{Reached}
use Rattle.column_relayout.proofs.plan.relayout.Given as goal

abbrev pub invariant-loop-i : goal.invariant-loop-i
invariant-loop-i l = Reached (lists_of_parts l.fn.parts) l.plan l.i (lists_of l.column)

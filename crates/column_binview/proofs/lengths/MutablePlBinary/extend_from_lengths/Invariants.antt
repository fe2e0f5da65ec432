use Rattle.column_binview.proofs.LengthsLemmas.{StandsAt}
use Rattle.column_binview.proofs.lengths.MutablePlBinary.extend_from_lengths.Given as goal

abbrev pub invariant-loop-n : goal.invariant-loop-n
invariant-loop-n l = StandsAt l.fn.self l.self l.buffer l.lengths l.rest l.n-index

use Rattle.std.proofs.Common.{arith}
use Rattle.column_blocks.proofs.RowsLemmas.{length_count-bound}
use Rattle.column_blocks.proofs.views.CountedViews.set.Goals as goal

pub overflow_add-self : goal.overflow_add-self
overflow_add-self c = omega (arith, length_count-bound c.self.inside.views.items c.self.inside.bytes c.self.invariant)

use Rattle.std.proofs.Common.{map}
use Rattle.column_base.proofs.PushesLemmas.{Stands}
use Rattle.column_base.proofs.push.push_each.Given as goal

abbrev pub invariant-loop-item : goal.invariant-loop-item
invariant-loop-item g l = Stands g.B.Growing.growth (g.B.Growing.lists l.fn.builder) (g.B.Growing.lists l.builder) (map g.B.TryPush.shown l.yielded)

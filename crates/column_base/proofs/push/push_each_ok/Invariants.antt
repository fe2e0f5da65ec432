use Rattle.std.proofs.Common.{◌≡◌, List, map}
use Rattle.std.specs.Prelude.{Ok}
use Rattle.column_base.proofs.PushesLemmas.{Stands}
use Rattle.column_base.proofs.push.push_each_ok.Given as goal

abbrev pub invariant-loop-item : goal.invariant-loop-item
invariant-loop-item g l =
    (taken : List _) × (l.yielded ≡ map Ok taken)
    × Stands g.B.Growing.growth (g.B.Growing.lists l.fn.builder) (g.B.Growing.lists l.builder) (map g.B.TryPush.shown taken)

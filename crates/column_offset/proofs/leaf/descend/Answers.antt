-- One level on.
use Rattle.column_offset.proofs.LeavesLemmas.{descends_more}
use Rattle.column_offset.proofs.leaf.descend.Goals as goal

pub loop-level-preserved : goal.loop-level-preserved
loop-level-preserved g c =
    descends_more c.args.levels.now c.args.place c.loop-level.level-index c.loop-level.at c.level_place-at.result c.level-item.result
    c.loop-level.invariant c.loop-level-test.true c.level-item.is c.level_place-at.ensures.same c.level_place-at.ensures.within

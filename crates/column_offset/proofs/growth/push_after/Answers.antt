use Rattle.std.proofs.Common.{arith}
use Rattle.column_offset.proofs.GrowthLemmas.{within_pushed, next_is}
use Rattle.column_offset.proofs.growth.push_after.Goals as goal

pub returns-clause-within : goal.returns-clause-within
returns-clause-within g c =
    rw c.in_ok-push.ensures.items (within_pushed _ _ _ _ c.args.length _ c.requires.within (next_is _ c.args.last c.args.length _ c.requires.last c.from_as_usize.ensures) c.from_as_usize.ensures (omega arith))

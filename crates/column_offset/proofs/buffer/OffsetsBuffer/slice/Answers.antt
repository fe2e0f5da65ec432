use Rattle.std.proofs.Common.{length, ap, arith}
use Rattle.column_offset.proofs.OffsetsLemmas.{within_part}
use Rattle.column_offset.proofs.buffer.OffsetsBuffer.slice.Goals as goal

pub invariant_of-self : goal.invariant_of-self
invariant_of-self g c = rw c.slice.ensures (within_part _ _ _ _ _ c.self.invariant c.requires.some (omega (arith, ap length c.self.view_is)))

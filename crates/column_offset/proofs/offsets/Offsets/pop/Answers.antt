use Rattle.std.proofs.Common.{arith}
use Rattle.std.proofs.lemmas.List.{length-map}
use Rattle.column_offset.proofs.OffsetsLemmas.{within_part}
use Rattle.column_offset.proofs.offsets.Offsets.pop.Goals as goal

pub invariant_of-self : goal.invariant_of-self
invariant_of-self g c =
    let count = length-map c.self.inside.offsets.items g.O.Offset.int in
    let ok = c.self.inside.offsets.ok.0 in
    rw c.pop.ensures.rest (within_part _ _ _ 0 _ c.self.invariant (omega (arith, c.self.invariant.sound.not_empty, c.len.ensures, c.if-len-eq1.false)) (omega arith))

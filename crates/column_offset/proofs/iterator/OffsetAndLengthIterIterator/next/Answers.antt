use Rattle.std.proofs.Common.{arith}
use Rattle.std.proofs.lemmas.List.{length-map}
use Rattle.column_offset.proofs.OffsetsLemmas.{sound_part}
use Rattle.column_offset.proofs.iterator.OffsetAndLengthIterIterator.next.Goals as goal

pub invariant_of-self : goal.invariant_of-self
invariant_of-self g c =
    let count = length-map c.args.self.now.offsets.now g.O.Offset.int in
    record { sound = sound_part g.O.Offset.int c.args.self.now.offsets.now 1 _ c.args.self.now.sound (omega arith) (omega arith) }

use Rattle.column_offset.proofs.OffsetsLemmas.{range_is}
use Rattle.column_offset.proofs.buffer.OffsetsBuffer.range.Goals as goal

pub returns : goal.returns
returns g c =
    let bytes = rw (c.as_slice.ensures.same, c.len.ensures) at c.distance.ensures.same in
    range_is c.args.self.now c.distance.result _ c.known.ensures.sound bytes c.from_as_usize.ensures

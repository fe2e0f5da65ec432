use Rattle.column_offset.specs.Iterators.{lengths_left}
use Rattle.column_offset.proofs.GrowthLemmas.{by_list}
use Rattle.column_offset.proofs.offsets.Offsets.try_extend_from_self.Goals as goal

pub returns-clause-answer : goal.returns-clause-answer
returns-clause-answer g c =
    let given = by_list lengths_left c.new.result g.O.Offset.GREATEST c.args.self.now.offsets c.try_extend_from_lengths.new.self.offsets c.try_extend_from_lengths.result c.try_extend_from_lengths.ensures.answer in
    rw (c.new.ensures, c.as_slice.ensures.same) at given

-- The bytes of all slots are within the type.
use Rattle.column_relayout.proofs.WrittenLemmas.{used_count}
use Rattle.column_relayout.proofs.append.growing.Goals as goal

pub taken_over-requires : goal.taken_over-requires
taken_over-requires g c = used_count c.args.array c.known.ensures.sound g.O.Offset.GREATEST c.known.ensures.within_type

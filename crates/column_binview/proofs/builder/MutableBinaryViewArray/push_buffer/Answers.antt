use Rattle.column_binview.proofs.BuildersLemmas.{buffer_after}
use Rattle.column_binview.proofs.builder.MutableBinaryViewArray.push_buffer.Goals as goal

pub invariant_of-self-2 : goal.invariant_of-self-2
invariant_of-self-2 g c = buffer_after g.K.ViewKind.IS_UTF8 _ c.args.buffer _ c.self.invariant c.in_ok-place.ensures.answer.0 c.in_ok-place.ensures.answer.1.1

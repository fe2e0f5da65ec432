use Rattle.column_binview.proofs.BuildersLemmas.{source_after}
use Rattle.column_binview.proofs.builder.MutableBinaryViewArray.add_source.Goals as goal

pub invariant_of-self-2 : goal.invariant_of-self-2
invariant_of-self-2 g c = source_after g.K.ViewKind.IS_UTF8 _ c.args.buffers _ c.self.invariant c.known.ensures c.in_ok-source.ensures.answer.1.1

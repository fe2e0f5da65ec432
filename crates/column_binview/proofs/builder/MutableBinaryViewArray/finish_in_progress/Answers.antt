use Rattle.column_binview.proofs.BuildersLemmas.{finished_after}
use Rattle.column_binview.proofs.builder.MutableBinaryViewArray.finish_in_progress.Goals as goal

pub invariant_of-self-2 : goal.invariant_of-self-2
invariant_of-self-2 g c = finished_after g.K.ViewKind.IS_UTF8 _ _ c.self.invariant c.in_ok-was_there.ensures.answer.1.1

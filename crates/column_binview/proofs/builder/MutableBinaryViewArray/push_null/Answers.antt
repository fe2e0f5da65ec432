use Rattle.column_binview.proofs.BuildersLemmas.{null_after}
use Rattle.column_binview.proofs.builder.MutableBinaryViewArray.push_null.Goals as goal

pub invariant_of-self-2 : goal.invariant_of-self-2
invariant_of-self-2 g c = null_after g.K.ViewKind.IS_UTF8 _ _ c.self.invariant c.in_ok-push_null.ensures.answer.1

use Rattle.column_binview.proofs.ChangesLemmas.{nulls_after}
use Rattle.column_binview.proofs.builder.MutableBinaryViewArray.extend_null.Goals as goal

pub invariant_of-self-2 : goal.invariant_of-self-2
invariant_of-self-2 g c = nulls_after g.K.ViewKind.IS_UTF8 _ c.args.additional _ c.self.invariant (rw c.zeroed.ensures at c.in_ok-extend_constant.ensures.answer.1)

use Rattle.column_binview.proofs.ChangesLemmas.{alike_after}
use Rattle.column_binview.proofs.builder.MutableBinaryViewArray.extend_bytes.Goals as goal

pub invariant_of-self-2 : goal.invariant_of-self-2
invariant_of-self-2 g c =
    alike_after g.K.ViewKind.IS_UTF8 _ c.args.additional c.args.value.now _ _ _ _ c.self.invariant c.requires c.in_ok-view.ensures.answer.0 c.in_ok-view.ensures.answer.1.0 c.in_ok-reserve.ensures.same c.in_ok-extend_constant.ensures.answer.1 c.in_ok-view.ensures.answer.1.1

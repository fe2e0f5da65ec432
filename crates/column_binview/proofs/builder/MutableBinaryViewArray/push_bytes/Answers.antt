use Rattle.column_binview.proofs.BuildersLemmas.{value_after}
use Rattle.column_binview.proofs.builder.MutableBinaryViewArray.push_bytes.Goals as goal

pub invariant_of-self-2 : goal.invariant_of-self-2
invariant_of-self-2 g c =
    value_after g.K.ViewKind.IS_UTF8 _ c.args.value.now _ _ _ _ c.self.invariant c.requires c.in_ok-view.ensures.answer.0 c.in_ok-view.ensures.answer.1.0 c.in_ok-reserve.ensures.same c.in_ok-push.ensures.answer.1 c.in_ok-view.ensures.answer.1.1

use Rattle.std.proofs.Common.{◌∙◌, ap, Err}
use Rattle.std.proofs.lemmas.Result.{err_from_is_err_and}
use Rattle.column_base.proofs.AnswersLemmas.{answers_err}
use Rattle.column_offset.proofs.OperationsLemmas.{replays_more, replays_refused}
use Rattle.column_offset.proofs.offsets.Offsets.replay.Goals as goal

pub returns-in_err-apply : goal.returns-in_err-apply
returns-in_err-apply g c =
    let at = c.loop-operation.invariant in
    let refused = err_from_is_err_and c.from_residual-in_err-apply.result c.from_residual-in_err-apply.ensures.1 in
    rw (refused.1 ∙ ap Err refused.2) (answers_err _ _ _ _ _ (c.in_err-apply.ensures at.lengths at.made)
    (λ cause fault. replays_refused _ _ _ _ _ cause at c.loop-operation-test.true fault))

pub loop-operation-preserved : goal.loop-operation-preserved
loop-operation-preserved g c =
    let at = c.loop-operation.invariant in
    let done = c.in_ok-apply.ensures at.lengths at.made in
    replays_more _ _ _ _ _ _ at c.loop-operation-test.true done.0 done.1

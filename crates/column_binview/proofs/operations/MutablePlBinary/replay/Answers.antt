use Rattle.std.proofs.Common.{◌∙◌, ap, sym, subst, Err}
use Rattle.std.proofs.lemmas.Result.{err_from_is_err_and}
use Rattle.std.proofs.lemmas.List.{take_all}
use Rattle.column_base.proofs.AnswersLemmas.{answers_err}
use Rattle.column_base.proofs.PushesLemmas.{Stands, answers_weaker}
use Rattle.column_binview.specs.Builders.{no_slots}
use Rattle.column_binview.specs.Operations.{operation_fault, operation_growth}
use Rattle.column_binview.proofs.OperationsLemmas.{operation_more, operation_refused, replayed}
use Rattle.column_binview.proofs.operations.MutablePlBinary.replay.Goals as goal

pub loop-operation-preserved : goal.loop-operation-preserved
loop-operation-preserved c =
    operation_more (λ bytes. bytes.items) c.loop-operation.builder c.apply.new.self c.args.operations.now c.loop-operation.operation-index c.operation-item.result c.loop-operation.invariant c.loop-operation-test.true c.operation-item.is c.in_ok-apply.ensures.0 c.in_ok-apply.ensures.1

pub returns-in_err-apply : goal.returns-in_err-apply
returns-in_err-apply c =
    let is = err_from_is_err_and c.from_residual.result c.from_residual.ensures.1 in
    rw (is.1 ∙ ap Err is.2) (answers_err (operation_fault (λ bytes. bytes.items) c.loop-operation.builder c.operation-item.result) _ _ _ c.in_err-apply.field-0.0 c.in_err-apply.ensures
    (λ cause fault. operation_refused (λ bytes. bytes.items) c.loop-operation.builder c.args.operations.now c.loop-operation.operation-index c.operation-item.result cause c.loop-operation.invariant c.loop-operation-test.true c.operation-item.is fault))

pub returns : goal.returns
returns c =
    let all = take_all c.loop-operation.operation-index c.args.operations.now c.loop-operation-test.false in
    let at = subst (Stands (operation_growth (λ bytes. bytes.items)) no_slots c.loop-operation.builder) all c.loop-operation.invariant in
    answers_weaker c.freeze.result _ _ _ _ (sym at.fine) (λ array frozen. replayed (λ bytes. bytes.items) c.args.operations.now c.loop-operation.builder array at frozen) c.freeze.ensures

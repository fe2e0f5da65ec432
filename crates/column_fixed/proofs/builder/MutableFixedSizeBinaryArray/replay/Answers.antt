use Rattle.std.proofs.Common.{◌∙◌, ◌+◌, ap, sym, take, drop, Err, None}
use Rattle.std.proofs.lemmas.Result.{err_from_is_err_and}
use Rattle.std.proofs.lemmas.List.{take_all}
use Rattle.column_base.proofs.AnswersLemmas.{answers_err}
use Rattle.column_base.proofs.PushesLemmas.{answers_weaker, stands_more, stands_refused}
use Rattle.column_fixed.specs.Rows.{no_slots}
use Rattle.column_fixed.specs.Operations.{operation_growth, operation_fault}
use Rattle.column_fixed.proofs.OperationsLemmas.{taken_more, taken_at, replayed}
use Rattle.column_fixed.proofs.builder.MutableFixedSizeBinaryArray.replay.Goals as goal

pub loop-operation-preserved : goal.loop-operation-preserved
loop-operation-preserved c =
    let before = take c.loop-operation.operation-index c.args.operations.now in
    let more = taken_more c.args.operations.now c.loop-operation.operation-index c.operation-item.result c.loop-operation-test.true c.operation-item.is in
    let next = stands_more operation_growth (no_slots c.args.size) c.loop-operation.builder.lists c.apply.new.self.lists before c.operation-item.result (record { fine = c.loop-operation.invariant.fine; is = c.loop-operation.invariant.is }) c.in_ok-apply.ensures.0 c.in_ok-apply.ensures.1 in
    rw more (record { fine = next.fine; is = next.is })

pub returns-in_err-apply : goal.returns-in_err-apply
returns-in_err-apply c =
    let before = take c.loop-operation.operation-index c.args.operations.now in
    let after = drop (c.loop-operation.operation-index + 1) c.args.operations.now in
    let is = err_from_is_err_and c.from_residual.result c.from_residual.ensures.1 in
    let all = taken_at c.args.operations.now c.loop-operation.operation-index c.operation-item.result c.loop-operation-test.true c.operation-item.is in
    rw (is.1 ∙ ap Err is.2) (answers_err (operation_fault c.loop-operation.builder.lists c.operation-item.result) _ _ _ c.in_err-apply.field-0.0 c.in_err-apply.ensures
    (λ cause fault. rw all (stands_refused operation_growth (no_slots c.args.size) c.loop-operation.builder.lists before after c.operation-item.result cause (record { fine = c.loop-operation.invariant.fine; is = c.loop-operation.invariant.is }) fault)))

pub returns : goal.returns
returns c =
    let all = take_all c.loop-operation.operation-index c.args.operations.now c.loop-operation-test.false in
    let fine = rw all at c.loop-operation.invariant.fine in
    let is = rw all at c.loop-operation.invariant.is in
    answers_weaker c.freeze.result _ _ _ _ (sym fine) (λ array frozen. replayed c.args.size c.args.operations.now c.loop-operation.builder.lists array c.requires fine is frozen) c.freeze.ensures

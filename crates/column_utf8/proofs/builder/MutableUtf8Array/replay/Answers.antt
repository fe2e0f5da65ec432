use Rattle.std.proofs.Common.{◌∙◌, ◌∷◌, ◌+◌, ap, sym, map, take, drop, Err, None}
use Rattle.std.proofs.lemmas.List.{map-append}
use Rattle.std.proofs.lemmas.Result.{err_from_is_err_and}
use Rattle.column_base.specs.Pushes.{growth_fault}
use Rattle.column_base.proofs.AnswersLemmas.{answers_err}
use Rattle.column_base.proofs.PushesLemmas.{answers_weaker, shown_more, stands_refused}
use Rattle.column_binary.specs.Rows.{no_slots}
use Rattle.column_binary.specs.Operations.{operation_growth, operation_fault}
use Rattle.column_binary.proofs.OperationsLemmas.{taken_more, taken_at, taken_all, replayed_frozen}
use Rattle.column_utf8.specs.Operations.{on_bytes}
use Rattle.column_utf8.proofs.builder.MutableUtf8Array.replay.Goals as goal

pub loop-operation-preserved : goal.loop-operation-preserved
loop-operation-preserved g c =
    let before = take c.loop-operation.operation-index c.args.operations.now in
    let more = taken_more c.args.operations.now c.loop-operation.operation-index c.operation-item.result c.loop-operation-test.true c.operation-item.is in
    let next = shown_more (operation_growth None g.O.Offset.GREATEST) on_bytes no_slots c.loop-operation.builder.lists c.apply.new.self.lists before c.operation-item.result (record { fine = c.loop-operation.invariant.fine; is = c.loop-operation.invariant.is }) c.in_ok-apply.ensures.0 c.in_ok-apply.ensures.1 in
    rw more (record { fine = next.fine; is = next.is })

pub returns-in_err-apply : goal.returns-in_err-apply
returns-in_err-apply g c =
    let before = take c.loop-operation.operation-index c.args.operations.now in
    let after = drop (c.loop-operation.operation-index + 1) c.args.operations.now in
    let item = c.operation-item.result in
    let growth = operation_growth None g.O.Offset.GREATEST in
    let is = err_from_is_err_and c.from_residual-in_err-apply.result c.from_residual-in_err-apply.ensures.1 in
    let all = taken_at c.args.operations.now c.loop-operation.operation-index c.operation-item.result c.loop-operation-test.true c.operation-item.is in
    rw (is.1 ∙ ap Err is.2) (answers_err (operation_fault g.O.Offset.GREATEST c.loop-operation.builder.lists (on_bytes item)) _ _ _ c.in_err-apply.field-0.0 c.in_err-apply.ensures
    (λ cause fault.
    ap (λ operations. growth_fault growth no_slots (map on_bytes operations)) all
    ∙ ap (growth_fault growth no_slots) (map-append on_bytes before (item ∷ after))
    ∙ stands_refused growth no_slots c.loop-operation.builder.lists (map on_bytes before) (map on_bytes after) (on_bytes item) cause (record { fine = c.loop-operation.invariant.fine; is = c.loop-operation.invariant.is }) fault))

pub returns : goal.returns
returns g c =
    let all = taken_all c.args.operations.now c.loop-operation.operation-index c.loop-operation-test.false in
    let fine = rw all at c.loop-operation.invariant.fine in
    let is = rw all at c.loop-operation.invariant.is in
    answers_weaker c.freeze.result _ _ _ _ (sym fine) (λ array frozen. replayed_frozen None g.O.Offset.GREATEST (map on_bytes c.args.operations.now) c.loop-operation.builder.lists array c.known.ensures.full is frozen) c.freeze.ensures

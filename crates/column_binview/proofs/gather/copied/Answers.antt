use Rattle.std.proofs.Common.{rules, ◌≡◌, ◌<◌, ◌∙◌, ap, sym, length, Err, Some}
use Rattle.std.proofs.lemmas.Result.{err_from_is_err_and}
use Rattle.column_base.specs.declared.errors.Cause.TheVariants.{Overflow}
use Rattle.column_base.specs.declared.errors.PolarsError.TheVariants.{ComputeError}
use Rattle.column_base.proofs.AnswersLemmas.{answers_err}
use Rattle.column_binview.specs.Slots.{view_slots}
use Rattle.column_binview.specs.Builders.{row_fault}
use Rattle.column_binview.proofs.GatheredLemmas.{told, copied_more, copied_refused, copied_full}
use Rattle.column_binview.proofs.gather.copied.Goals as goal

pub loop-i-preserved : goal.loop-i-preserved
loop-i-preserved g c =
    let within : c.loop-i.i < length (view_slots c.args.array.now) = search rules in
    copied_more c.loop-i.builder c.push_bytes.new.self (view_slots c.args.array.now) c.loop-i.i c.value_bytes.result.now c.loop-i.invariant within c.value_bytes.ensures.bytes c.in_ok-push_bytes.ensures.answer.0 c.in_ok-push_bytes.ensures.answer.1

pub returns-in_err-push_bytes-clause-answer : goal.returns-in_err-push_bytes-clause-answer
returns-in_err-push_bytes-clause-answer g c =
    let within : c.loop-i.i < length (view_slots c.args.array.now) = search rules in
    let is = err_from_is_err_and c.from_residual-in_err-push_bytes.result c.from_residual-in_err-push_bytes.ensures.1 in
    rw (is.1 ∙ ap Err is.2) (answers_err (row_fault c.loop-i.builder (Some c.value_bytes.result.now)) _ _ _ c.in_err-push_bytes.field-0.0 c.in_err-push_bytes.ensures.answer
    (λ cause refused. copied_refused c.loop-i.builder (view_slots c.args.array.now) c.loop-i.i c.value_bytes.result.now cause c.loop-i.invariant within c.value_bytes.ensures.bytes refused))

pub returns-in_err-push_bytes-clause-few : goal.returns-in_err-push_bytes-clause-few
returns-in_err-push_bytes-clause-few g c = λ overflow.
    let within : c.loop-i.i < length (view_slots c.args.array.now) = search rules in
    let is = err_from_is_err_and c.from_residual-in_err-push_bytes.result c.from_residual-in_err-push_bytes.ensures.1 in
    let error : c.in_err-push_bytes.field-0.0 ≡ ComputeError Overflow = let same = sym (is.1 ∙ ap Err is.2) ∙ overflow in cc in
    let cause = told c.in_err-push_bytes.field-0.0 (row_fault c.loop-i.builder (Some c.value_bytes.result.now)) _ c.in_err-push_bytes.ensures.answer error in
    copied_full c.loop-i.builder (view_slots c.args.array.now) c.loop-i.i c.value_bytes.result.now cause.0 c.loop-i.invariant within c.value_bytes.ensures.bytes c.value_bytes.ensures.fits cause.1

use Rattle.std.proofs.Common.{◌∙◌, ap, refl, Err}
use Rattle.std.proofs.lemmas.Result.{err_from_is_err_and}
use Rattle.column_binview.proofs.LengthsLemmas.{cut_more, cut_refused, cut_all}
use Rattle.column_binview.proofs.lengths.MutablePlBinary.extend_from_lengths.Goals as goal

pub loop-n-preserved : goal.loop-n-preserved
loop-n-preserved c =
    cut_more c.args.self.now c.loop-n.self c.push_value.new.self c.args.buffer.now c.args.lengths.now c.loop-n.rest.now c.split_at.result.1.now c.split_at.result.0.now c.loop-n.n-index _ _ c.loop-n.invariant c.loop-n-test.true refl
    c.split_at.ensures.front c.split_at.ensures.back c.in_ok-push_value.ensures.answer.0 c.in_ok-push_value.ensures.answer.1

pub returns-in_err-push_value : goal.returns-in_err-push_value
returns-in_err-push_value c =
    let is = err_from_is_err_and c.from_residual.result c.from_residual.ensures.1 in
    rw (is.1 ∙ ap Err is.2) (cut_refused _ c.args.self.now c.loop-n.self c.push_value.new.self c.args.buffer.now c.args.lengths.now c.loop-n.rest.now c.split_at.result.1.now c.split_at.result.0.now c.loop-n.n-index _ _ c.in_err-push_value.field-0.0
    c.loop-n.invariant c.loop-n-test.true refl c.split_at.ensures.front c.split_at.ensures.back c.in_err-push_value.ensures.unchanged c.in_err-push_value.ensures.answer)

pub returns : goal.returns
returns c = cut_all c.args.self.now c.loop-n.self c.args.buffer.now c.args.lengths.now c.loop-n.rest.now c.loop-n.n-index c.loop-n.invariant c.loop-n-test.false

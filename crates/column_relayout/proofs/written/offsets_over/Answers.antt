-- All lengths fit, so all are taken.
use Rattle.std.proofs.Common.{◌∙◌, ap, map, Ok, Err, None}
use Rattle.std.proofs.lemmas.Result.{err_from_is_err_and}
use Rattle.column_base.proofs.AnswersLemmas.{answers_err}
use Rattle.column_offset.specs.Growth.{lengths_of}
use Rattle.column_relayout.proofs.WrittenLemmas.{lengths_taken}
use Rattle.column_relayout.proofs.written.offsets_over.Goals as goal

pub returns-in_err-try_extend_from_lengths : goal.returns-in_err-try_extend_from_lengths
returns-in_err-try_extend_from_lengths g c =
    let is = err_from_is_err_and c.from_residual-in_err-try_extend_from_lengths.result c.from_residual-in_err-try_extend_from_lengths.ensures.1 in
    let told = lengths_taken (λ s. lengths_of (map g.O.Offset.int s.offsets.now)) c.lengths.result (lengths_of c.args.offsets.now) c.lengths.ensures g.P.Offset.GREATEST c.requires
    c.in_ok-new.new.offsets c.try_extend_from_lengths.new.self.offsets (Err c.in_err-try_extend_from_lengths.field-0.0) c.in_ok-new.ensures.1.0 (c.in_err-try_extend_from_lengths.ensures {u = tt}).answer in
    rw (is.1 ∙ ap Err is.2) (answers_err None None _ _ c.in_err-try_extend_from_lengths.field-0.0 told (λ cause fault. fault))

pub returns : goal.returns
returns g c =
    lengths_taken (λ s. lengths_of (map g.O.Offset.int s.offsets.now)) c.lengths.result (lengths_of c.args.offsets.now) c.lengths.ensures g.P.Offset.GREATEST c.requires
    c.in_ok-new.new.offsets c.try_extend_from_lengths.new.self.offsets (Ok tt) c.in_ok-new.ensures.1.0 (c.in_ok-try_extend_from_lengths.ensures {u = tt}).answer

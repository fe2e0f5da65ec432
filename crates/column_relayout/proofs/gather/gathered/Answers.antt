-- Only the number of buffers refuses the long slots.
use Rattle.std.proofs.Common.{ap, ◌∙◌, Err}
use Rattle.std.proofs.lemmas.Result.{err_from_is_err_and}
use Rattle.column_relayout.specs.Columns.{view_column}
use Rattle.column_relayout.proofs.GatherLemmas.{gather_fine, gather_steps, gather_refused}
use Rattle.column_relayout.proofs.gather.gathered.Goals as goal

pub returns-in_err-new : goal.returns-in_err-new
returns-in_err-new g c =
    let is = err_from_is_err_and c.from_residual.result c.from_residual.ensures.1 in
    let told = c.in_err-new.ensures {u = tt} in
    rw (is.1 ∙ ap Err is.2) (gather_refused (λ new. view_column g.K.ViewKind.IS_UTF8 new) g.K.ViewKind.IS_UTF8 c.args.array c.in_err-new.field-0.0 _ told.answer (λ same. told.few (ap Err same)))

pub returns : goal.returns
returns g c = (gather_fine g.K.ViewKind.IS_UTF8 _, gather_steps g.K.ViewKind.IS_UTF8 c.args.array c.in_ok-new.new (c.in_ok-new.ensures {u = tt}).answer.1 c.known.ensures)

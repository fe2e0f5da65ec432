-- The fault is that of the slots together.
use Rattle.std.proofs.Common.{◌∙◌, sym, ap, false, Err}
use Rattle.std.proofs.lemmas.Result.{err_from_is_err_and}
use Rattle.column_binary.specs.Slots.{offset_slots}
use Rattle.column_relayout.specs.declared.steps.Step.TheVariants.{Append}
use Rattle.column_relayout.specs.Columns.{offset_column}
use Rattle.column_relayout.proofs.StepsLemmas.{append_fault, append_steps, refused_first}
use Rattle.column_relayout.proofs.append.append_bytes.Goals as goal

pub returns-in_err-new : goal.returns-in_err-new
returns-in_err-new g c =
    let is = err_from_is_err_and c.from_residual.result c.from_residual.ensures.1 in
    let fault = append_fault g.O.Offset.IS_LARGE (offset_slots c.args.array) c.args.rows.now g.O.Offset.GREATEST g.met.O.Offset.greatest in
    rw (is.1 ∙ ap Err is.2) (refused_first (λ new. offset_column g.O.Offset.IS_LARGE false new) (offset_column g.O.Offset.IS_LARGE false c.args.array) (Append c.args.rows.now) _ _ c.in_err-new.field-0.0 c.in_err-new.ensures (sym fault))

pub returns : goal.returns
returns g c =
    let fault = append_fault g.O.Offset.IS_LARGE (offset_slots c.args.array) c.args.rows.now g.O.Offset.GREATEST g.met.O.Offset.greatest in
    (fault ∙ c.in_ok-new.ensures.0, append_steps g.O.Offset.IS_LARGE false c.args.array c.in_ok-new.new c.args.rows.now c.in_ok-new.ensures.1 c.known.ensures)

-- The builder begins with the slots of the array.
use Rattle.std.proofs.Common.{◌∙◌, ap, Err}
use Rattle.std.proofs.lemmas.Result.{err_from_is_err_and}
use Rattle.column_rows.proofs.ViewsLemmas.{refused_rows, written_array}
use Rattle.column_rows.proofs.views.views_with_rows.Goals as goal

pub returns-in_err-push_rows : goal.returns-in_err-push_rows
returns-in_err-push_rows g c =
    let rows = g.R.RowList.rows c.args.rows.now in
    let is = err_from_is_err_and c.from_residual-in_err-push_rows.result c.from_residual-in_err-push_rows.ensures.1 in
    rw (is.1 ∙ ap Err is.2) (refused_rows c.args.array c.reserve.new.self c.push_rows.new.builder rows (c.in_ok-reserve.ensures.same ∙ c.in_ok-builder.ensures.1) c.in_err-push_rows.field-0.0 _ _ c.in_err-push_rows.ensures
    (λ cause. c.rows_are_appended.ensures.refused c.args.array rows cause c.requires))

pub returns : goal.returns
returns g c =
    let rows = g.R.RowList.rows c.args.rows.now in
    written_array c.args.array c.reserve.new.self c.push_rows.new.builder rows (c.in_ok-reserve.ensures.same ∙ c.in_ok-builder.ensures.1) c.freeze.result _ _ c.in_ok-push_rows.ensures c.freeze.ensures
    (c.rows_are_appended.ensures.appended c.args.array rows c.known.ensures.sound)

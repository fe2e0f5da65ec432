-- The builder begins without slots.
use Rattle.std.proofs.Common.{◌∙◌, ◌++◌, List, ap, map, Err, arith}
use Rattle.std.proofs.lemmas.Result.{err_from_is_err_and}
use Rattle.column_base.specs.Kinds.{Slot}
use Rattle.column_binview.specs.Builders.{slot_of}
use Rattle.column_rows.proofs.ViewsLemmas.{no_lists, none_sound, none_slots, refused_rows, written_array}
use Rattle.column_rows.proofs.views.views_of_rows.Goals as goal

pub returns-in_err-push_rows : goal.returns-in_err-push_rows
returns-in_err-push_rows g c =
    let rows = g.R.RowList.rows c.args.rows.now in
    let is = err_from_is_err_and c.from_residual-in_err-push_rows.result c.from_residual-in_err-push_rows.ensures.1 in
    rw (is.1 ∙ ap Err is.2) (refused_rows no_lists c.in_ok-builder.builder c.push_rows.new.builder rows c.in_ok-builder.ensures.1 c.in_err-push_rows.field-0.0 _ _ c.in_err-push_rows.ensures
    (λ cause refused. let told = c.rows_are_appended.ensures.refused no_lists rows cause c.requires refused in (told.0, omega (arith, told.1))))

pub returns : goal.returns
returns g c =
    let rows = g.R.RowList.rows c.args.rows.now in
    written_array no_lists c.in_ok-builder.builder c.push_rows.new.builder rows c.in_ok-builder.ensures.1 c.freeze.result _ _ c.in_ok-push_rows.ensures c.freeze.ensures
    (λ fine.
    let told = c.rows_are_appended.ensures.appended no_lists rows none_sound fine in
    (told.0 ∙ ap (λ (slots : List Slot). slots ++ map slot_of rows) none_slots, told.1.further))

-- Rows of the width are pushed.
use Rattle.column_rows.proofs.FixedLemmas.{rows_added}
use Rattle.column_rows.proofs.fixed.push_fitting.Goals as goal

pub returns : goal.returns
returns g c =
    let old = c.args.builder.now.lists in
    let rows = g.R.RowList.rows c.args.rows.now in
    rows_added c.push_rows.result old c.push_rows.new.builder.lists rows
    c.requires (c.rows_fit_together.ensures old rows) (c.pushes_keep_the_width.ensures old rows) (c.pushes_add_slots.ensures old rows c.known.ensures.sound) c.push_rows.ensures

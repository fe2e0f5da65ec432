-- What the builder holds is written.
use Rattle.std.proofs.Common.{◌∙◌, refl, false}
use Rattle.column_relayout.proofs.WrittenLemmas.{hold_written}
use Rattle.column_relayout.proofs.RebuildLemmas.{offsets_written}
use Rattle.column_relayout.proofs.write_rows.bytes_of_rows.Goals as goal

pub returns : goal.returns
returns g c =
    (refl, offsets_written g.P.Offset.IS_LARGE false c.in_ok-new.new (g.R.RowList.rows c.args.rows.now) (c.in_ok-new.ensures.1 ∙ hold_written c.in_ok-rows_builder.field-0.lists _ c.in_ok-rows_builder.ensures.1) c.known.ensures)

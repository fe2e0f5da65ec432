-- The slots are those of the rows, and the buffers hold the long ones.
use Rattle.std.proofs.Common.{false}
use Rattle.column_relayout.proofs.RebuildLemmas.{views_written}
use Rattle.column_relayout.proofs.write_rows.byte_views_of_rows.Goals as goal

pub returns : goal.returns
returns g c = views_written false c.in_ok-new.new (g.R.RowList.rows c.args.rows.now) c.in_ok-new.ensures.0 c.in_ok-new.ensures.1 c.known.ensures

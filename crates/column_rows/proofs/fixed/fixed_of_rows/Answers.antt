-- The rows are added to no slots.
use Rattle.std.proofs.Common.{refl}
use Rattle.column_rows.proofs.FixedLemmas.{rows_made}
use Rattle.column_rows.proofs.fixed.fixed_of_rows.Goals as goal

pub returns : goal.returns
returns g c = (
  refl,
  rows_made c.args.width (g.R.RowList.rows c.args.rows.now) c.in_ok-builder.builder.lists c.push_fitting.new.builder.lists c.in_ok-array.array
      c.requires.positive c.in_ok-builder.ensures.1.0 c.in_ok-push_fitting.ensures.1 c.in_ok-array.ensures.1,
)

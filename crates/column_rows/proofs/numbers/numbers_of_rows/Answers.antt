-- The rows are added to no slots.
use Rattle.std.proofs.Common.{refl}
use Rattle.column_rows.proofs.NumbersLemmas.{numbers_made}
use Rattle.column_rows.proofs.numbers.numbers_of_rows.Goals as goal

pub returns : goal.returns
returns g c = (
  refl,
  numbers_made _ (g.R.RowList.rows c.args.rows.now) c.in_ok-builder.builder.array c.push_numbers.new.builder.array c.in_ok-array.array
      c.in_ok-builder.ensures.1.0 c.in_ok-push_numbers.ensures.1 c.in_ok-array.ensures.1,
)

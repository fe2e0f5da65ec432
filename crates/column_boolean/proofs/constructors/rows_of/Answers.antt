use Rattle.std.proofs.Common.{◌≡◌}
use Rattle.std.specs.Prelude.{Option, Bool}
use Rattle.std.proofs.lemmas.List.{map-id}
use Rattle.column_base.proofs.PushesLemmas.{made_by_slice}
use Rattle.column_boolean.specs.Rows.{row_growth, no_slots}
use Rattle.column_boolean.proofs.RowsLemmas.{none_refused}
use Rattle.column_boolean.proofs.constructors.rows_of.Goals as goal

pub returns : goal.returns
returns c =
    rw (none_refused no_slots c.args.slice.now) at (rw map-id at (made_by_slice row_growth (λ (row : Option Bool). row) c.iter.result c.args.slice.now no_slots (λ b lists. b.lists ≡ lists) c.with_each.result c.iter.ensures.rest (rw c.in_ok-with_capacity.ensures.1.0 at c.with_each.ensures)))

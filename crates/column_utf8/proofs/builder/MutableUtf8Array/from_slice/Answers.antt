use Rattle.std.proofs.Common.{◌≡◌, Some}
use Rattle.std.specs.String.{string_bytes}
use Rattle.column_base.proofs.PushesLemmas.{made_by_slice}
use Rattle.column_binary.specs.Rows.{row_growth, no_slots}
use Rattle.column_utf8.proofs.builder.MutableUtf8Array.from_slice.Goals as goal

pub returns : goal.returns
returns g c =
    made_by_slice (row_growth g.O.Offset.GREATEST) (λ text. Some (string_bytes text)) c.iter.result c.args.slice.now no_slots (λ b lists. b.lists ≡ lists) c.with_each.result c.iter.ensures.rest (rw c.in_ok-with_capacities.ensures.1.0 at c.with_each.ensures)

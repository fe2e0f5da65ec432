use Rattle.std.proofs.Common.{◌≡◌}
use Rattle.std.specs.Prelude.{option_map}
use Rattle.std.specs.String.{string_bytes}
use Rattle.column_base.proofs.PushesLemmas.{made_by_slice}
use Rattle.column_binview.specs.Builders.{no_slots, row_growth}
use Rattle.column_binview.proofs.constructors.MutablePlString.from.Goals as goal

pub returns : goal.returns
returns c =
    made_by_slice row_growth (option_map string_bytes) c.iter.result c.args.slice.now no_slots (λ b builder. b ≡ builder) c.with_each.result c.iter.ensures.rest (rw c.in_ok-with_capacity.ensures.1 at c.with_each.ensures)

use Rattle.std.proofs.Common.{◌≡◌, ◌<◌, subst}
use Rattle.std.specs.Prelude.{IfOk, MatchOption}
use Rattle.column_binary.specs.Slots.{slot_count}
use Rattle.column_binary.specs.Rows.{GrowingLists}
use Rattle.column_binary.proofs.ValuesLemmas.{none_where_ok}
use Rattle.column_binary.proofs.values_builder.MutableBinaryValuesArray.pop.Goals as goal

pub returns-clause-none : goal.returns-clause-none
returns-clause-none g c =
    subst (λ (v : GrowingLists). IfOk c.pop.result (λ row. MatchOption row (slot_count v.lists ≡ 0) (λ _. 0 < slot_count v.lists))) c.self.view_is
    (none_where_ok c.pop.result (λ bytes. bytes.items) c.self.inside.array.lists _ c.known.ensures.full c.self.invariant c.pop.ensures.answer)

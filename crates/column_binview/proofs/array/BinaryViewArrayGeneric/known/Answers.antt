use Rattle.std.proofs.Common.{◌≡◌, length, subst}
use Rattle.column_storage.specs.Validity.{AreFlagsOf}
use Rattle.column_binview.specs.Slots.{ViewLists, view_slots, view_count}
use Rattle.column_binview.proofs.SlotsLemmas.{length-view_slots}
use Rattle.column_binview.proofs.array.BinaryViewArrayGeneric.known.Goals as goal

pub returns-clause-flagged : goal.returns-clause-flagged
returns-clause-flagged g c = subst (λ (lists : ViewLists). AreFlagsOf (view_count lists) lists.flags) c.self.view_is c.self.invariant.0.flagged

pub returns-clause-count : goal.returns-clause-count
returns-clause-count g c =
    subst (λ (lists : ViewLists). length (view_slots lists) ≡ view_count lists) c.self.view_is (length-view_slots _ c.self.invariant.0.flagged)

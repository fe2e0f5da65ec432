use Rattle.column_storage.proofs.SlotsLemmas.{length-flagged_slots, values_of-flagged_slots}
use Rattle.column_storage.proofs.laws.slots_are_values.Goals as goal

pub returns-clause-count : goal.returns-clause-count
returns-clause-count c = length-flagged_slots

pub returns-clause-bytes : goal.returns-clause-bytes
returns-clause-bytes c = values_of-flagged_slots

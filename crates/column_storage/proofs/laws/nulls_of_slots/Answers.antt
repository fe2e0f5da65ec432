use Rattle.column_storage.proofs.SlotsLemmas.{nulls-flagged_slots}
use Rattle.column_storage.proofs.laws.nulls_of_slots.Goals as goal

pub returns : goal.returns
returns c = nulls-flagged_slots

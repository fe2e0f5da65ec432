use Rattle.column_storage.proofs.SlotsLemmas.{flagged_slots-sliced}
use Rattle.column_storage.proofs.laws.slots_of_slice.Goals as goal

pub returns : goal.returns
returns c = flagged_slots-sliced

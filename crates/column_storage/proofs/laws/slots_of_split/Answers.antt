use Rattle.column_storage.proofs.SlotsLemmas.{flagged_slots-split}
use Rattle.column_storage.proofs.laws.slots_of_split.Goals as goal

pub returns : goal.returns
returns c = flagged_slots-split

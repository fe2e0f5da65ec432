use Rattle.column_storage.proofs.SlotsLemmas.{flagged_slots-same}
use Rattle.column_storage.proofs.laws.same_flags_same_slots.Goals as goal

pub returns : goal.returns
returns c = flagged_slots-same

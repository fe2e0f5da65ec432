use Rattle.column_storage.proofs.SlotsLemmas.{slot_at-sliced}
use Rattle.column_storage.proofs.laws.slot_of_slice.Goals as goal

pub returns : goal.returns
returns c = slot_at-sliced

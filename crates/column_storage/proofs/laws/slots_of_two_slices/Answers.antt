use Rattle.column_storage.proofs.FlagsLemmas.{sliced_flags-sliced}
use Rattle.column_storage.proofs.SlotsLemmas.{flagged_slots-sliced_twice}
use Rattle.column_storage.proofs.laws.slots_of_two_slices.Goals as goal

pub returns-clause-flags : goal.returns-clause-flags
returns-clause-flags c = sliced_flags-sliced

pub returns-clause-slots : goal.returns-clause-slots
returns-clause-slots c = flagged_slots-sliced_twice

use Rattle.column_storage.proofs.SlotsLemmas.{bytes-flagged_slots, valid-flagged_slots}
use Rattle.column_storage.proofs.laws.slot_is_flag_and_value.Goals as goal

pub returns-clause-bytes : goal.returns-clause-bytes
returns-clause-bytes c = bytes-flagged_slots

pub returns-clause-valid : goal.returns-clause-valid
returns-clause-valid c = valid-flagged_slots

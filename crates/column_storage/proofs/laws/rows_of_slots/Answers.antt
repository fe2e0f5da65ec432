use Rattle.column_storage.proofs.SlotsLemmas.{rows_of-flagged_slots, valid_rows-flagged_slots}
use Rattle.column_storage.proofs.laws.rows_of_slots.Goals as goal

pub returns-clause-all : goal.returns-clause-all
returns-clause-all c = rows_of-flagged_slots

pub returns-clause-valid : goal.returns-clause-valid
returns-clause-valid c = valid_rows-flagged_slots

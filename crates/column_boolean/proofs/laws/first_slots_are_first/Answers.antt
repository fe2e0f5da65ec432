use Rattle.column_boolean.proofs.RowsLemmas as lemmas
use Rattle.column_boolean.proofs.laws.first_slots_are_first.Goals as goal

pub returns : goal.returns
returns c = lemmas.slots-first

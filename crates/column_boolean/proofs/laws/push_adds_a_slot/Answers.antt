use Rattle.column_boolean.proofs.RowsLemmas as lemmas
use Rattle.column_boolean.proofs.laws.push_adds_a_slot.Goals as goal

pub returns : goal.returns
returns c = lemmas.slots-row

use Rattle.column_fixed.proofs.RowsLemmas as lemmas
use Rattle.column_fixed.proofs.laws.push_adds_a_slot.Goals as goal

pub returns : goal.returns
returns c = lemmas.slots-row

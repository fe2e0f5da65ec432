use Rattle.column_boolean.proofs.RowsLemmas as lemmas
use Rattle.column_boolean.proofs.laws.frozen_slots_are_same.Goals as goal

pub returns : goal.returns
returns c = lemmas.slots-frozen

use Rattle.column_boolean.proofs.SlotsLemmas as lemmas
use Rattle.column_boolean.proofs.laws.slot_of_slice.Goals as goal

pub returns : goal.returns
returns c = lemmas.slot_of_slice

use Rattle.column_fixed.proofs.SlotsLemmas as lemmas
use Rattle.column_fixed.proofs.laws.slot_of_slice.Goals as goal

pub returns : goal.returns
returns c = lemmas.slot_of_slice

use Rattle.column_binview.proofs.SlotsLemmas as lemmas
use Rattle.column_binview.proofs.laws.slot_of_slice.Goals as goal

pub returns : goal.returns
returns c = lemmas.slot_of_slice

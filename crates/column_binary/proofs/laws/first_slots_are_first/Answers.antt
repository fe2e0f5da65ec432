use Rattle.column_binary.proofs.FirstLemmas as lemmas
use Rattle.column_binary.proofs.laws.first_slots_are_first.Goals as goal

pub returns : goal.returns
returns c = lemmas.slots-first

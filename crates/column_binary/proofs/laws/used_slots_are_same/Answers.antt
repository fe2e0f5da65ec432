use Rattle.column_binary.proofs.FirstLemmas as lemmas
use Rattle.column_binary.proofs.laws.used_slots_are_same.Goals as goal

pub returns : goal.returns
returns c = lemmas.slots-used

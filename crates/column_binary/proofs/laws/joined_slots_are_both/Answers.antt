use Rattle.column_binary.proofs.JoinLemmas as lemmas
use Rattle.column_binary.proofs.laws.joined_slots_are_both.Goals as goal

pub returns : goal.returns
returns c = lemmas.slots-joined

use Rattle.column_binary.proofs.FirstLemmas as lemmas
use Rattle.column_binary.proofs.laws.frozen_slots_are_same.Goals as goal

pub returns : goal.returns
returns c lists full = lemmas.slots-frozen lists full.sound

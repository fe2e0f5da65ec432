use Rattle.column_boolean.proofs.SlotsLemmas as lemmas
use Rattle.column_boolean.proofs.laws.no_fault_is_sound.Goals as goal

pub returns : goal.returns
returns c = lemmas.no_fault_is_sound

use Rattle.column_fixed.proofs.SlotsLemmas as lemmas
use Rattle.column_fixed.proofs.laws.no_fault_is_sound.Goals as goal

pub returns : goal.returns
returns c = lemmas.no_fault_is_sound

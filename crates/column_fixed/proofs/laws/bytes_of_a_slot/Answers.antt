use Rattle.column_fixed.proofs.SlotsLemmas as lemmas
use Rattle.column_fixed.proofs.laws.bytes_of_a_slot.Goals as goal

pub returns : goal.returns
returns c = lemmas.bytes_at

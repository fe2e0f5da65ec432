use Rattle.column_fixed.proofs.SlotsLemmas as lemmas
use Rattle.column_fixed.proofs.laws.same_lists_same_slots.Goals as goal

pub returns : goal.returns
returns c = lemmas.same_slots

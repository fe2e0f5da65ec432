use Rattle.column_fixed.proofs.RowsLemmas as lemmas
use Rattle.column_fixed.proofs.laws.joined_slots_are_both.Goals as goal

pub returns : goal.returns
returns c = lemmas.slots-joined

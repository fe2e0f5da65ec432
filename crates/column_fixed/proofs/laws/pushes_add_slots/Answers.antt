use Rattle.column_fixed.proofs.RowsLemmas as lemmas
use Rattle.column_fixed.proofs.laws.pushes_add_slots.Goals as goal

pub returns : goal.returns
returns c = lemmas.slots_rows

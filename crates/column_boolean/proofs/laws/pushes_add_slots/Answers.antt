use Rattle.column_boolean.proofs.RowsLemmas as lemmas
use Rattle.column_boolean.proofs.laws.pushes_add_slots.Goals as goal

pub returns : goal.returns
returns c = lemmas.slots_rows

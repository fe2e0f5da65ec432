use Rattle.column_boolean.proofs.SlotsLemmas as lemmas
use Rattle.column_boolean.proofs.laws.slice_is_part.Goals as goal

pub returns : goal.returns
returns c = lemmas.boolean_slots-sliced

use Rattle.column_boolean.proofs.SlotsLemmas as lemmas
use Rattle.column_boolean.proofs.laws.flags_of_slice.Goals as goal

pub returns : goal.returns
returns c = lemmas.flags-sliced

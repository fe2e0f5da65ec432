use Rattle.column_boolean.proofs.SlotsLemmas as lemmas
use Rattle.column_boolean.proofs.laws.slices_are_one.Goals as goal

pub returns : goal.returns
returns c = lemmas.slices_are_one

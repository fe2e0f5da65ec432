use Rattle.column_boolean.proofs.SlotsLemmas as lemmas
use Rattle.column_boolean.proofs.laws.split_is_whole.Goals as goal

pub returns : goal.returns
returns c = lemmas.split_is_whole

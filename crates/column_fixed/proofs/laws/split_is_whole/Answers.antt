use Rattle.column_fixed.proofs.SlotsLemmas as lemmas
use Rattle.column_fixed.proofs.laws.split_is_whole.Goals as goal

pub returns : goal.returns
returns c = lemmas.split_is_whole

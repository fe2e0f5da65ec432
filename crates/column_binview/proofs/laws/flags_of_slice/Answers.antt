use Rattle.column_binview.proofs.SlotsLemmas as lemmas
use Rattle.column_binview.proofs.laws.flags_of_slice.Goals as goal

pub returns : goal.returns
returns c = lemmas.flags-sliced

use Rattle.column_binview.proofs.SlotsLemmas as lemmas
use Rattle.column_binview.proofs.laws.slice_is_part.Goals as goal

pub returns : goal.returns
returns c = lemmas.view_slots-sliced

use Rattle.column_fixed.proofs.SlotsLemmas as lemmas
use Rattle.column_fixed.proofs.laws.slice_is_part.Goals as goal

pub returns : goal.returns
returns c = lemmas.fixed_slots-sliced

use Rattle.column_binary.proofs.SlotsLemmas as lemmas
use Rattle.column_binary.proofs.laws.slice_is_part.Goals as goal

pub returns : goal.returns
returns c = lemmas.offset_slots-sliced

use Rattle.column_offset.proofs.TextLemmas as lemmas
use Rattle.column_offset.proofs.text.slots_decide.Goals as goal

pub returns : goal.returns
returns c = lemmas.slots_decide

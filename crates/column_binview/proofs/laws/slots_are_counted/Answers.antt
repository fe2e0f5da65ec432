use Rattle.column_binview.proofs.SlotsLemmas as lemmas
use Rattle.column_binview.proofs.laws.slots_are_counted.Goals as goal

pub returns : goal.returns
returns c = λ text lists sound. lemmas.length-view_slots lists sound.flagged

use Rattle.column_deduped.proofs.DedupedLemmas as lemmas
use Rattle.column_deduped.proofs.laws.deduped_slots_are_same.Goals as goal

pub returns-clause-slots : goal.returns-clause-slots
returns-clause-slots c = lemmas.slots-deduped

pub returns-clause-sound : goal.returns-clause-sound
returns-clause-sound c = lemmas.sound-deduped

pub returns-clause-fewer : goal.returns-clause-fewer
returns-clause-fewer c = lemmas.fewer-deduped

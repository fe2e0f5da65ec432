use Rattle.column_binview.proofs.BuildersLemmas as lemmas
use Rattle.column_binview.proofs.builder_laws.builder_of_lists_is_sound.Goals as goal

pub returns-clause-sound : goal.returns-clause-sound
returns-clause-sound c = lemmas.sound-builder_of

pub returns-clause-same : goal.returns-clause-same
returns-clause-same c = lemmas.lists_of-builder_of

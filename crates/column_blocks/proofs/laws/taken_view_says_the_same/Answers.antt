use Rattle.column_blocks.proofs.SourcesLemmas as lemmas
use Rattle.column_blocks.proofs.laws.taken_view_says_the_same.Goals as goal

pub returns-clause-fine : goal.returns-clause-fine
returns-clause-fine c = lemmas.fine-taken

pub returns-clause-same : goal.returns-clause-same
returns-clause-same c = lemmas.same-taken

pub returns-clause-appends : goal.returns-clause-appends
returns-clause-appends c = lemmas.appends-taken

pub returns-clause-sound : goal.returns-clause-sound
returns-clause-sound c = lemmas.sound-taken

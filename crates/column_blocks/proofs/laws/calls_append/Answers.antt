use Rattle.column_blocks.proofs.AppendsLemmas as lemmas
use Rattle.column_blocks.proofs.laws.calls_append.Goals as goal

pub returns-clause-none : goal.returns-clause-none
returns-clause-none c = lemmas.appends-refl

pub returns-clause-stored : goal.returns-clause-stored
returns-clause-stored c = lemmas.appends-stored

pub returns-clause-finished : goal.returns-clause-finished
returns-clause-finished c = lemmas.appends-finished

pub returns-clause-pushed : goal.returns-clause-pushed
returns-clause-pushed c = lemmas.appends-pushed

pub returns-clause-together : goal.returns-clause-together
returns-clause-together c = lemmas.appends-trans

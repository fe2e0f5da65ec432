use Rattle.column_blocks.proofs.GrowthLemmas as lemmas
use Rattle.column_blocks.proofs.laws.views_stay.Goals as goal

pub returns-clause-fine : goal.returns-clause-fine
returns-clause-fine c = lemmas.views_fault-grown

pub returns-clause-same : goal.returns-clause-same
returns-clause-same c = lemmas.contents-grown

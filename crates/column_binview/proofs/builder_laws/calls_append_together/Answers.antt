use Rattle.column_binview.proofs.BuildersLemmas as lemmas
use Rattle.column_binview.proofs.builder_laws.calls_append_together.Goals as goal

pub returns-clause-none : goal.returns-clause-none
returns-clause-none c = lemmas.appends-none

pub returns-clause-both : goal.returns-clause-both
returns-clause-both c = lemmas.appends-both

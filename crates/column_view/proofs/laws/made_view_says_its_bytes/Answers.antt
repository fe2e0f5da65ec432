use Rattle.column_view.proofs.FaultsLemmas as lemmas
use Rattle.column_view.proofs.laws.made_view_says_its_bytes.Goals as goal

pub returns-clause-inline : goal.returns-clause-inline
returns-clause-inline c = lemmas.says_inline

pub returns-clause-long : goal.returns-clause-long
returns-clause-long c = lemmas.says_long

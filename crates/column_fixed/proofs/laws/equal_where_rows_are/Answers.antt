use Rattle.column_fixed.proofs.EqualLemmas as lemmas
use Rattle.column_fixed.proofs.laws.equal_where_rows_are.Goals as goal

pub returns-clause-rows : goal.returns-clause-rows
returns-clause-rows c = lemmas.rows_decide

pub returns-clause-reflexive : goal.returns-clause-reflexive
returns-clause-reflexive c = lemmas.rows_reflexive

pub returns-clause-symmetric : goal.returns-clause-symmetric
returns-clause-symmetric c = lemmas.rows_symmetric

pub returns-clause-transitive : goal.returns-clause-transitive
returns-clause-transitive c = lemmas.rows_transitive

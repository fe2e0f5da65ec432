use Rattle.column_binview.proofs.RowsLemmas as lemmas
use Rattle.column_binview.proofs.laws.equal_where_rows_are.Goals as goal

pub returns : goal.returns
returns c = lemmas.rows_decide

use Rattle.column_fixed.proofs.RowsLemmas as lemmas
use Rattle.column_fixed.proofs.laws.rows_fit_together.Goals as goal

pub returns : goal.returns
returns c = lemmas.fault_rows

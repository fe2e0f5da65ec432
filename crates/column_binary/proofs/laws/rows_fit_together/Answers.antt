use Rattle.column_binary.proofs.RowsLemmas as lemmas
use Rattle.column_binary.proofs.laws.rows_fit_together.Goals as goal

pub returns : goal.returns
returns c = lemmas.fault_rows

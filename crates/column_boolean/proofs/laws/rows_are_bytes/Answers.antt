use Rattle.column_boolean.proofs.SlotsLemmas as lemmas
use Rattle.column_boolean.proofs.laws.rows_are_bytes.Goals as goal

pub returns : goal.returns
returns c = lemmas.rows_are

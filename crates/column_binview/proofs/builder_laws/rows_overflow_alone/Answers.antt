use Rattle.column_binview.proofs.GatheredLemmas as lemmas
use Rattle.column_binview.proofs.builder_laws.rows_overflow_alone.Goals as goal

pub returns : goal.returns
returns c = lemmas.overflow_rows

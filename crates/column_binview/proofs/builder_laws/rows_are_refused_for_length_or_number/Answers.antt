use Rattle.column_binview.proofs.GatheredLemmas as lemmas
use Rattle.column_binview.proofs.builder_laws.rows_are_refused_for_length_or_number.Goals as goal

pub returns-clause-number : goal.returns-clause-number
returns-clause-number c = lemmas.rows_refused

pub returns-clause-long : goal.returns-clause-long
returns-clause-long c = lemmas.long_rows

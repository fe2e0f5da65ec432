use Rattle.column_binview.proofs.ValuesLemmas as lemmas
use Rattle.column_binview.proofs.builder_laws.values_need_no_validity.Goals as goal

pub returns : goal.returns
returns c = lemmas.flags-values

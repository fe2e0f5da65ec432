use Rattle.column_binview.proofs.ChangesLemmas as lemmas
use Rattle.column_binview.proofs.builder_laws.equal_slots_append.Goals as goal

pub returns : goal.returns
returns c = lemmas.appends-extended

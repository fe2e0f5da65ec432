use Rattle.column_binview.proofs.ChangesLemmas as lemmas
use Rattle.column_binview.proofs.builder_laws.one_slot_is_changed.Goals as goal

pub returns-clause-view : goal.returns-clause-view
returns-clause-view c = lemmas.slots-changed_view

pub returns-clause-flag : goal.returns-clause-flag
returns-clause-flag c = lemmas.slots-with_flag

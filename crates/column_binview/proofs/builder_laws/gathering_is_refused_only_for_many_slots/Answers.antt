use Rattle.column_binview.proofs.GatheredLemmas as lemmas
use Rattle.column_binview.proofs.builder_laws.gathering_is_refused_only_for_many_slots.Goals as goal

pub returns-clause-views : goal.returns-clause-views
returns-clause-views c = lemmas.views_refused

pub returns-clause-slots : goal.returns-clause-slots
returns-clause-slots c = lemmas.slots_refused

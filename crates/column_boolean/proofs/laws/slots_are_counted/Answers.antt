use Rattle.column_boolean.proofs.SlotsLemmas as lemmas
use Rattle.column_boolean.proofs.laws.slots_are_counted.Goals as goal

pub returns-clause-slots : goal.returns-clause-slots
returns-clause-slots c = lemmas.length-boolean_slots

pub returns-clause-flags : goal.returns-clause-flags
returns-clause-flags c = lemmas.flags_are

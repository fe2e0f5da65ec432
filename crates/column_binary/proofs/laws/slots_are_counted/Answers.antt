use Rattle.column_binary.proofs.SlotsLemmas as lemmas
use Rattle.column_binary.proofs.laws.slots_are_counted.Goals as goal

pub returns-clause-slots : goal.returns-clause-slots
returns-clause-slots c = lemmas.length-offset_slots

pub returns-clause-offsets : goal.returns-clause-offsets
returns-clause-offsets c = lemmas.offsets_are

pub returns-clause-flags : goal.returns-clause-flags
returns-clause-flags c = lemmas.flags_are

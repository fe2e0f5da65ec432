use Rattle.column_view.proofs.FaultsLemmas as lemmas
use Rattle.column_view.proofs.laws.texts_are_byte_strings.Goals as goal

pub returns-clause-first : goal.returns-clause-first
returns-clause-first c = lemmas.texts_fault

pub returns-clause-none : goal.returns-clause-none
returns-clause-none c = lemmas.strings_fault

use Rattle.column_view.proofs.FaultsLemmas as lemmas
use Rattle.column_view.proofs.laws.no_fault_in_each.Goals as goal

pub returns-clause-each : goal.returns-clause-each
returns-clause-each c = lemmas.fine_exactly

pub returns-clause-layout : goal.returns-clause-layout
returns-clause-layout c = lemmas.layout_fine

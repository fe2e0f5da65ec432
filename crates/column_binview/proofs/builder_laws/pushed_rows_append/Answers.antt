use Rattle.column_binview.proofs.BuildersLemmas as lemmas
use Rattle.column_binview.proofs.builder_laws.pushed_rows_append.Goals as goal

pub returns-clause-row : goal.returns-clause-row
returns-clause-row c = λ text builder row sound. lemmas.appends-row builder row (lemmas.sound-strings text builder sound)

pub returns-clause-rows : goal.returns-clause-rows
returns-clause-rows c = λ text builder rows sound. lemmas.appends-rows builder rows (lemmas.sound-strings text builder sound)

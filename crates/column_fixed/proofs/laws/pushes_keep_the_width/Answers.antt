use Rattle.column_fixed.proofs.RowsLemmas as lemmas
use Rattle.column_fixed.proofs.laws.pushes_keep_the_width.Goals as goal

pub returns : goal.returns
returns c = lemmas.width_rows

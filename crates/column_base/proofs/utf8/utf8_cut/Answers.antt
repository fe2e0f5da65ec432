use Rattle.column_base.proofs.Utf8Lemmas.{well_formed-cut}
use Rattle.column_base.proofs.utf8.utf8_cut.Goals as goal

pub returns : goal.returns
returns c = well_formed-cut

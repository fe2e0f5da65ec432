use Rattle.column_base.proofs.Utf8Lemmas.{well_formed-IsUtf8}
use Rattle.column_base.proofs.utf8.utf8_is_text.Goals as goal

pub returns : goal.returns
returns c = well_formed-IsUtf8

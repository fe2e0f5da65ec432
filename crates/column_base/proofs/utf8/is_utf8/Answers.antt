use Rattle.column_base.proofs.Utf8Lemmas.{test_is}
use Rattle.column_base.proofs.utf8.is_utf8.Goals as goal

pub returns : goal.returns
returns c = test_is _ _ c.is_utf8.ensures

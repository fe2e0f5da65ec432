use Rattle.column_base.proofs.Utf8Lemmas.{well_formed-IsUtf8}
use Rattle.column_base.proofs.utf8.str_of.Goals as goal

pub from_utf8_unchecked-requires : goal.from_utf8_unchecked-requires
from_utf8_unchecked-requires c = (well_formed-IsUtf8 _).0 c.requires

use Rattle.std.proofs.Common.{sym}
use Rattle.column_offset.proofs.TextLemmas.{covered_is}
use Rattle.column_offset.proofs.text.slots_end_to_end.Goals as goal

pub returns : goal.returns
returns c = λ offsets values sound. sym (covered_is offsets values sound)

use Rattle.column_offset.proofs.OffsetsLemmas.{read_from_zero}
use Rattle.column_offset.proofs.checks.offset_of.Goals as goal

pub returns-clause-starts : goal.returns-clause-starts
returns-clause-starts g c = read_from_zero _ _ _ _ c.requires.sound c.index-offsets-index.is c.requires.within

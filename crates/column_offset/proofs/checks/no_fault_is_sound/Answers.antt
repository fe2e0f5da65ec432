use Rattle.column_offset.proofs.OffsetsLemmas.{sound_where_no_fault, no_fault_where_sound}
use Rattle.column_offset.proofs.checks.no_fault_is_sound.Goals as goal

pub returns : goal.returns
returns c = λ offsets. (sound_where_no_fault offsets, no_fault_where_sound offsets)

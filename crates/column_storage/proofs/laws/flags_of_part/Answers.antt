use Rattle.column_storage.proofs.FlagsLemmas.{length-sliced_flags, flags_of-sliced}
use Rattle.column_storage.proofs.laws.flags_of_part.Goals as goal

pub returns-clause-count : goal.returns-clause-count
returns-clause-count c = length-sliced_flags

pub returns-clause-read : goal.returns-clause-read
returns-clause-read c = flags_of-sliced

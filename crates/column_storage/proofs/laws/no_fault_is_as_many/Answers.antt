use Rattle.column_storage.proofs.FlagsLemmas.{no_flags_fault}
use Rattle.column_storage.proofs.laws.no_fault_is_as_many.Goals as goal

pub returns : goal.returns
returns c = no_flags_fault

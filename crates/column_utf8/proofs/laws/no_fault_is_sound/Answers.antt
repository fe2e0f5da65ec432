use Rattle.column_utf8.proofs.TextsLemmas as texts
use Rattle.column_utf8.proofs.laws.no_fault_is_sound.Goals as goal

pub returns : goal.returns
returns c = texts.no_fault_is_sound

use Rattle.column_binview.proofs.SlotsLemmas as lemmas
use Rattle.column_binview.proofs.laws.texts_are_byte_strings.Goals as goal

pub returns : goal.returns
returns c = lemmas.strings_are_sound

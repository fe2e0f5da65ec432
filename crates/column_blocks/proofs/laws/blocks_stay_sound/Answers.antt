use Rattle.column_blocks.proofs.BlocksLemmas as lemmas
use Rattle.column_blocks.proofs.laws.blocks_stay_sound.Goals as goal

pub returns-clause-made : goal.returns-clause-made
returns-clause-made c = lemmas.sound-blocks_of

pub returns-clause-stored : goal.returns-clause-stored
returns-clause-stored c = lemmas.sound-stored

pub returns-clause-finished : goal.returns-clause-finished
returns-clause-finished c = lemmas.sound-finished

pub returns-clause-pushed : goal.returns-clause-pushed
returns-clause-pushed c = lemmas.sound-pushed

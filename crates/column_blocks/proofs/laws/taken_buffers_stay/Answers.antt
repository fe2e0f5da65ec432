use Rattle.column_blocks.proofs.SourcesLemmas as lemmas
use Rattle.column_blocks.proofs.laws.taken_buffers_stay.Goals as goal

pub returns-clause-none : goal.returns-clause-none
returns-clause-none c = λ blocks sound. record { blocks = sound; taken = lemmas.taken-none blocks.finished }

pub returns-clause-appended : goal.returns-clause-appended
returns-clause-appended c = lemmas.sound-appended

pub returns-clause-source : goal.returns-clause-source
returns-clause-source c = λ bytes buffers sources sound. record { blocks = sound.blocks; taken = lemmas.taken-source_added bytes.taken bytes.blocks.finished buffers sources sound.taken }

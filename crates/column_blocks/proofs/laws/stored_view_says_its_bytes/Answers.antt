use Rattle.column_blocks.proofs.GrowthLemmas as lemmas
use Rattle.column_blocks.proofs.laws.stored_view_says_its_bytes.Goals as goal

pub returns : goal.returns
returns c = lemmas.says-stored

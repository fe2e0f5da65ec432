use Rattle.column_deduped.proofs.DedupedLemmas as lemmas
use Rattle.column_deduped.proofs.laws.names_of_deduped.Goals as goal

pub returns : goal.returns
returns c = lemmas.names-deduped

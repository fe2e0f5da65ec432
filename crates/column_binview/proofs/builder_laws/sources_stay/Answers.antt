use Rattle.column_binview.proofs.SourceViewsLemmas.{sources-taken}
use Rattle.column_binview.proofs.ValuesLemmas.{last_source}
use Rattle.column_binview.proofs.builder_laws.sources_stay.Goals as goal

pub returns-clause-added : goal.returns-clause-added
returns-clause-added c = λ taken buffers. last_source taken.sources buffers

pub returns-clause-kept : goal.returns-clause-kept
returns-clause-kept c = sources-taken

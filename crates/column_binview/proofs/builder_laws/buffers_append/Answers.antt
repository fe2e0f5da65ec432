use Rattle.column_binview.proofs.BuildersLemmas as lemmas
use Rattle.column_binview.proofs.builder_laws.buffers_append.Goals as goal

pub returns-clause-finished : goal.returns-clause-finished
returns-clause-finished c = lemmas.appends-finished_builder

pub returns-clause-buffer : goal.returns-clause-buffer
returns-clause-buffer c = lemmas.appends-buffer

pub returns-clause-source : goal.returns-clause-source
returns-clause-source c = lemmas.appends-with_source

pub returns-clause-view : goal.returns-clause-view
returns-clause-view c = lemmas.appends-source_view

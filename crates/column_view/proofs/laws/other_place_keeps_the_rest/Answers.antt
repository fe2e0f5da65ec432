use Rattle.column_view.proofs.ViewsLemmas as lemmas
use Rattle.column_view.proofs.laws.other_place_keeps_the_rest.Goals as goal

pub returns-clause-length : goal.returns-clause-length
returns-clause-length c view index is = lemmas.view_length-with_index view index is.count

pub returns-clause-prefix : goal.returns-clause-prefix
returns-clause-prefix c view index is = lemmas.view_prefix-with_index view index is.count

pub returns-clause-start : goal.returns-clause-start
returns-clause-start c view index is = lemmas.view_start-with_index view index is.count

pub returns-clause-index : goal.returns-clause-index
returns-clause-index c view index is = lemmas.view_index-with_index view index is.count

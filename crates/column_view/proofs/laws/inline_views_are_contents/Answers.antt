use Rattle.column_view.proofs.InlineLemmas as lemmas
use Rattle.column_view.proofs.laws.inline_views_are_contents.Goals as goal

pub returns : goal.returns
returns c = lemmas.same_where_contents

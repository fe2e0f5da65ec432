use Rattle.column_binview.proofs.SourceViewsLemmas as lemmas
use Rattle.column_binview.proofs.builder_laws.given_views_are_fine.Goals as goal

pub returns : goal.returns
returns g c = λ text buffers left items lists fine. lemmas.views_given text buffers left g.I.Iterator.next_gives lists items fine

use Rattle.column_relayout.proofs.PlansLemmas.{last_after_light}
use Rattle.column_relayout.proofs.laws.last_step_after_light_ones.Goals as goal

pub returns : goal.returns
returns c = last_after_light

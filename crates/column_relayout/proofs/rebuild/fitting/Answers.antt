-- What the builder holds is written.
use Rattle.std.proofs.Common.{◌∙◌, None, refl}
use Rattle.column_base.proofs.PushesLemmas.{answers_weaker}
use Rattle.column_relayout.proofs.WrittenLemmas.{hold_written}
use Rattle.column_relayout.proofs.rebuild.fitting.Goals as goal

pub returns : goal.returns
returns g c = answers_weaker c.freeze.result None None _ _ refl (λ array frozen. frozen ∙ hold_written c.in_ok-builder.builder.lists _ c.in_ok-builder.ensures.1) c.freeze.ensures

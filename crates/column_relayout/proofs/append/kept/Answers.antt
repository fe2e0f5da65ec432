-- The lists begin at 0, and hold the slots as they are.
use Rattle.std.proofs.Common.{◌∙◌, refl}
use Rattle.column_relayout.proofs.WrittenLemmas.{hold_used}
use Rattle.column_relayout.proofs.append.kept.Goals as goal

pub returns : goal.returns
returns g c = (refl, hold_used c.args.array c.reserve.new.self.lists c.known.ensures.sound c.requires (c.reserve.ensures.same ∙ c.in_ok-builder.ensures.1))

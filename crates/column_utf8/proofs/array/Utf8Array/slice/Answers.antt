use Rattle.column_utf8.proofs.TextsLemmas.{AreSoundTexts-sliced}
use Rattle.column_utf8.proofs.array.Utf8Array.slice.Goals as goal

pub invariant_of-self : goal.invariant_of-self
invariant_of-self g c = rw c.slice.ensures.part (AreSoundTexts-sliced c.self.inside.array c.args.offset c.args.length c.self.invariant (rw c.self.view_is c.requires))

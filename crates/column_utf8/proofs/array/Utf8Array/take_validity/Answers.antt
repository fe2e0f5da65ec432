use Rattle.std.proofs.Common.{ap}
use Rattle.column_binary.specs.Slots.{OffsetLists}
use Rattle.column_utf8.proofs.TextsLemmas.{AreSoundTexts-flags}
use Rattle.column_utf8.proofs.array.Utf8Array.take_validity.Goals as goal

pub invariant_of-self : goal.invariant_of-self
invariant_of-self g c = AreSoundTexts-flags c.self.inside.array c.take_validity-validity.new.self c.self.invariant c.known.ensures.sound (ap (λ (lists : OffsetLists). lists.offsets) c.take_validity-validity.ensures.rest) (ap (λ (lists : OffsetLists). lists.values) c.take_validity-validity.ensures.rest)

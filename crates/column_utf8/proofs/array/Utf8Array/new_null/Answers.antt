use Rattle.std.proofs.Common.{ap}
use Rattle.column_binary.specs.Slots.{OffsetLists}
use Rattle.column_utf8.proofs.TextsLemmas.{empty_texts}
use Rattle.column_utf8.proofs.array.Utf8Array.new_null.Goals as goal

pub of-requires : goal.of-requires
of-requires g c = empty_texts _ c.known.ensures.sound (ap (λ (lists : OffsetLists). lists.values) (c.in_ok-array.ensures {u = tt}).1)

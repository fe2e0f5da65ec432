use Rattle.std.proofs.Common.{◌≡◌}
use Rattle.std.specs.Option.{option_copied}
use Rattle.column_fixed.proofs.RowsLemmas.{only_memory}
use Rattle.column_fixed.proofs.array.FixedSizeBinaryArray.from_iter.Goals as goal

pub returns-clause-memory : goal.returns-clause-memory
returns-clause-memory g c =
    only_memory option_copied g.I.IntoIter.Iterator.next_gives c.try_from_iter.ensures.0 c.args.size (λ a lists. a ≡ lists) c.try_from_iter.result c.try_from_iter.ensures.2 (c.requires.fit c.try_from_iter.ensures.0 c.try_from_iter.ensures.1)

use Rattle.std.proofs.Common.{◌≡◌, take}
use Rattle.column_blocks.proofs.sources.shared_sources.Given as goal

abbrev pub invariant-loop-source : goal.invariant-loop-source
invariant-loop-source l = l.all.items ≡ take l.source-index l.sources.items

use Rattle.std.proofs.Common.{◌≡◌, take}
use Rattle.column_blocks.proofs.sources.copied_places.Given as goal

abbrev pub invariant-loop-place : goal.invariant-loop-place
invariant-loop-place l = l.all.items ≡ take l.place-index l.places.items

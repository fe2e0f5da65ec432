use Rattle.std.proofs.Common.{arith}
use Rattle.std.proofs.lemmas.List.{length-map}
use Rattle.column_offset.proofs.OffsetsLemmas.{place_limit, numbers_more}
use Rattle.column_offset.proofs.convert.converted.Goals as goal

pub from_as_usize-requires : goal.from_as_usize-requires
from_as_usize-requires g c =
    rw c.place.ensures.same (place_limit _ c.loop-i.i c.last_place.result _ c.requires (rw length-map c.loop-i-test.true) c.last_place.ensures.same (omega (arith, c.if-last_place-GREATEST.false, c.GREATEST.ensures)))

pub loop-i-preserved : goal.loop-i-preserved
loop-i-preserved g c =
    numbers_more _ _ _ _ _ c.loop-i.i c.place.result c.loop-i.invariant c.in_ok-push.ensures.items c.from_as_usize.ensures c.place.ensures.same c.requires (rw length-map c.loop-i-test.true)

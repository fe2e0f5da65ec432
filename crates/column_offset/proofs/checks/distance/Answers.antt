use Rattle.std.proofs.Common.{arith}
use Rattle.std.proofs.lemmas.List.{length-map}
use Rattle.column_offset.proofs.OffsetsLemmas.{places_in_order}
use Rattle.column_offset.proofs.checks.distance.Goals as goal

pub overflow_sub-result : goal.overflow_sub-result
overflow_sub-result g c = rw (c.place.ensures.same, c.place-2.ensures.same) (places_in_order _ _ _ c.requires.sound c.requires.order (rw length-map c.requires.within))

pub returns-clause-same : goal.returns-clause-same
returns-clause-same g c =
    let order = places_in_order _ _ _ c.requires.sound c.requires.order (rw length-map c.requires.within) in
    omega (arith, order, c.place.ensures.same, c.place-2.ensures.same)

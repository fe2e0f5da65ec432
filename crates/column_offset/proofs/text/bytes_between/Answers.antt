use Rattle.std.proofs.Common.{rules, ◌≤◌, length, arith}
use Rattle.std.proofs.lemmas.List.{length-map}
use Rattle.column_offset.proofs.OffsetsLemmas.{places_in_order, place_below_last}
use Rattle.column_offset.proofs.text.bytes_between.Goals as goal

pub slice_bounds-result-count : goal.slice_bounds-result-count
slice_bounds-result-count g c = rw (c.place-start.ensures.same, c.place-end.ensures.same) (places_in_order _ _ _ c.requires.sound c.requires.order (rw length-map c.requires.within))

pub slice_bounds-result-start : goal.slice_bounds-result-start
slice_bounds-result-start g c =
    let order : c.place-start.result ≤ c.place-end.result = slice_bounds-result-count g c in
    let below = place_below_last _ c.args.to c.requires.sound (rw length-map c.requires.within) in
    let within : c.place-end.result ≤ length c.args.values.now = omega (arith, below, c.place-end.ensures.same, c.requires.bounds) in
    search rules

pub slice_bounds-result-end : goal.slice_bounds-result-end
slice_bounds-result-end g c =
    let order : c.place-start.result ≤ c.place-end.result = slice_bounds-result-count g c in
    let below = place_below_last _ c.args.to c.requires.sound (rw length-map c.requires.within) in
    let within : c.place-end.result ≤ length c.args.values.now = omega (arith, below, c.place-end.ensures.same, c.requires.bounds) in
    search rules

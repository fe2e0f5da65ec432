-- What is left is sound, and still fits the levels.
use Rattle.std.proofs.Common.{◌≤◌, ◌-◌, length, arith}
use Rattle.std.proofs.lemmas.List.{length-map}
use Rattle.column_offset.proofs.OffsetsLemmas.{sound_part}
use Rattle.column_offset.proofs.LeavesLemmas.{fits_rest}
use Rattle.column_offset.proofs.leaf.LeafRangesIterator.next.Goals as goal

pub invariant_of-self-clause-fits : goal.invariant_of-self-clause-fits
invariant_of-self-clause-fits g c =
    let some : 2 ≤ length c.args.self.now.offsets.now = omega arith in
    fits_rest g.O.Offset.int c.args.self.now.offsets.now c.args.self.now.levels.now some c.args.self.now.fits

pub invariant_of-self-clause-sound : goal.invariant_of-self-clause-sound
invariant_of-self-clause-sound g c =
    let xs = c.args.self.now.offsets.now in
    let some : 2 ≤ length xs = omega arith in
    sound_part g.O.Offset.int xs 1 (length xs - 1) c.args.self.now.sound (omega arith) (omega (arith, length-map xs g.O.Offset.int))

use Rattle.std.proofs.Common.{◌≡◌, ◌+◌, ◌-◌, inl, inr, arith}
use Rattle.std.proofs.lemmas.List.{length-map}
use Rattle.column_offset.proofs.OffsetsLemmas.{sound_part}
use Rattle.column_offset.proofs.SlotsLemmas.{lengths_of-part}
use Rattle.column_offset.proofs.offsets.slots_of.Goals as goal

pub returns-clause-sound : goal.returns-clause-sound
returns-clause-sound g c =
    let e : c.args.start + c.args.length + 1 - c.args.start ≡ c.args.length + 1 = omega arith in
    let count = length-map c.args.offsets.now g.O.Offset.int in
    rw e (elim c.requires.within [
      | inl none ↦ absurd (c.if-length-eq0.false none)
      | inr within ↦ sound_part g.O.Offset.int c.args.offsets.now c.args.start (c.args.length + 1) c.requires.sound (omega arith) (omega arith)
    ])

pub returns-clause-lengths : goal.returns-clause-lengths
returns-clause-lengths g c =
    let e : c.args.start + c.args.length + 1 - c.args.start ≡ c.args.length + 1 = omega arith in
    rw e (lengths_of-part g.O.Offset.int c.args.offsets.now c.args.start c.args.length)

-- All is written that fits.
use Rattle.std.proofs.Common.{◌≤◌, arith}
use Rattle.column_base.proofs.AnswersLemmas.{answers_without}
use Rattle.column_binary.specs.Slots.{offset_slots}
use Rattle.column_relayout.specs.Written.{bytes_in, written_slots}
use Rattle.column_relayout.proofs.WrittenLemmas.{room_none}
use Rattle.column_relayout.proofs.rebuild.rewritten.Goals as goal

pub returns : goal.returns
returns g c =
    let slots = written_slots (offset_slots c.args.array.now) in
    let within : bytes_in slots ≤ g.P.Offset.GREATEST = omega (arith, c.if-bytes-GREATEST.false, c.GREATEST.ensures, c.valid_bytes-bytes.ensures) in
    answers_without c.fitting.result _ _ _ c.fitting.ensures (room_none g.P.Offset.GREATEST slots within) (λ array written. written)

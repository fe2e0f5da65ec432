-- The fault of the offsets and the values is that of the slots.
use Rattle.column_utf8.proofs.TextsLemmas.{cut_fault_is}
use Rattle.column_utf8.proofs.convert.check_slots.Goals as goal

pub returns : goal.returns
returns g c =
    rw (← cut_fault_is c.args.array.now c.known.ensures.sound, ← c.offsets.ensures, ← c.as_slice.ensures.same, ← c.values.ensures, ← c.as_slice-2.ensures) c.check_utf8-checked.ensures

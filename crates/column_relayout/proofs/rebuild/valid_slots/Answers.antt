-- Where no bytes lie in null slots, the slots are those that are written.
use Rattle.std.proofs.Common.{◌≡◌, ◌∙◌, sym, ap, subst, length, arith, None, refl}
use Rattle.column_base.proofs.PushesLemmas.{answers_weaker}
use Rattle.column_base.specs.Slots.{rows_of}
use Rattle.column_binary.specs.Slots.{offset_slots}
use Rattle.column_relayout.specs.Written.{bytes_in, written_slots, HoldSlots}
use Rattle.column_relayout.proofs.WrittenLemmas.{length-concat, written_same, bytes_in-given}
use Rattle.column_relayout.proofs.rebuild.valid_slots.Goals as goal

pub taken_over-requires : goal.taken_over-requires
taken_over-requires g c =
    let slots = offset_slots c.args.array.now in
    let size : length c.used_bytes.result.now ≡ bytes_in slots = ap length c.used_bytes.ensures.bytes ∙ length-concat slots in
    omega (arith, size, c.if-bytes-used_bytes.true, c.requires.within)

pub returns-then-bytes-used_bytes : goal.returns-then-bytes-used_bytes
returns-then-bytes-used_bytes g c =
    let slots = offset_slots c.args.array.now in
    let size : length c.used_bytes.result.now ≡ bytes_in slots = ap length c.used_bytes.ensures.bytes ∙ length-concat slots in
    let same : written_slots slots ≡ slots = written_same slots (sym c.requires.bytes ∙ c.if-bytes-used_bytes.true ∙ size) in
    answers_weaker c.taken_over.result None None _ _ refl (λ builder hold. subst (HoldSlots builder.lists) (sym same) hold) c.taken_over.ensures

pub rows_builder-requires : goal.rows_builder-requires
rows_builder-requires g c =
    let given = bytes_in-given (rows_of (offset_slots c.args.array.now)) in
    omega (arith, given, c.requires.bytes, c.requires.within)

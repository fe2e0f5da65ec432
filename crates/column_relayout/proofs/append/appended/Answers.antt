-- The room is what the slots leave of the greatest offset.
use Rattle.std.proofs.Common.{◌≡◌, ◌≤◌, ◌<◌, ◌∙◌, ◌++◌, map, length, ap, refl, arith}
use Rattle.column_base.proofs.AnswersLemmas.{answers_without}
use Rattle.column_binary.specs.Slots.{offset_slots}
use Rattle.column_binary.specs.Rows.{slot_of}
use Rattle.column_relayout.specs.Written.{bytes_in}
use Rattle.column_relayout.proofs.WrittenLemmas.{length-concat, bytes_in-append, bytes_in-given, room_none, room_some}
use Rattle.column_relayout.proofs.append.appended.Goals as goal

pub overflow_sub-GREATEST : goal.overflow_sub-GREATEST
overflow_sub-GREATEST g c =
    let size : length c.used_bytes.result.now ≡ bytes_in (offset_slots c.args.array) = ap length c.used_bytes.ensures.bytes ∙ length-concat (offset_slots c.args.array) in
    omega (arith, size, c.GREATEST.ensures, c.used_bytes.ensures.within_type)

pub fitting-requires : goal.fitting-requires
fitting-requires g c =
    let slots = offset_slots c.args.array in
    let size : length c.used_bytes.result.now ≡ bytes_in slots = ap length c.used_bytes.ensures.bytes ∙ length-concat slots in
    let told = c.in-Some.ensures {u = tt} in
    let both = bytes_in-append slots (map slot_of c.args.rows.now) in
    let given = bytes_in-given c.args.rows.now in
    omega (arith, size, c.GREATEST.ensures, c.used_bytes.ensures.within_type, told.0, told.1, both, given)

pub returns-in-Some : goal.returns-in-Some
returns-in-Some g c =
    let slots = offset_slots c.args.array in
    let size : length c.used_bytes.result.now ≡ bytes_in slots = ap length c.used_bytes.ensures.bytes ∙ length-concat slots in
    let told = c.in-Some.ensures {u = tt} in
    let both = bytes_in-append slots (map slot_of c.args.rows.now) in
    let given = bytes_in-given c.args.rows.now in
    let within : bytes_in (slots ++ map slot_of c.args.rows.now) ≤ g.O.Offset.GREATEST = omega (arith, size, c.GREATEST.ensures, c.used_bytes.ensures.within_type, told.0, told.1, both, given) in
    answers_without c.fitting.result _ _ _ c.fitting.ensures (room_none g.O.Offset.GREATEST (slots ++ map slot_of c.args.rows.now) within) (λ array written. written)

pub returns-in-None : goal.returns-in-None
returns-in-None g c =
    let slots = offset_slots c.args.array in
    let size : length c.used_bytes.result.now ≡ bytes_in slots = ap length c.used_bytes.ensures.bytes ∙ length-concat slots in
    let told = c.in-None.ensures {u = tt} in
    let both = bytes_in-append slots (map slot_of c.args.rows.now) in
    let given = bytes_in-given c.args.rows.now in
    let past : g.O.Offset.GREATEST < bytes_in (slots ++ map slot_of c.args.rows.now) = omega (arith, size, c.GREATEST.ensures, c.used_bytes.ensures.within_type, told, both, given) in
    rw c.into.ensures (room_some g.O.Offset.GREATEST (slots ++ map slot_of c.args.rows.now) past, refl)

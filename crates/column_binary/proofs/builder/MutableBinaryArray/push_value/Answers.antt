use Rattle.std.proofs.Common.{◌∙◌, ◌++◌, ap, Some}
use Rattle.std.specs.Prelude.{true}
use Rattle.column_binary.specs.Slots.{slot_count, offset_lists}
use Rattle.column_storage.specs.Bits.{bits_given, pushed_flag}
use Rattle.column_binary.proofs.RowsLemmas.{full_row}
use Rattle.column_binary.proofs.builder.MutableBinaryArray.push_value.Goals as goal

pub invariant_of-self-2 : goal.invariant_of-self-2
invariant_of-self-2 g c =
    let old = offset_lists c.self.inside.offsets.offsets c.self.inside.values.items (bits_given c.self.inside.validity) in
    let values = c.in_ok-extend_from_slice.ensures.items ∙ ap (λ items. items ++ c.args.value.now) c.in_ok-reserve.ensures.items in
    let flags = c.push_valid_flag.ensures.flags (slot_count old) ∙ ap (λ flags. pushed_flag (slot_count old) flags true) c.in_ok-reserve_flags.ensures.same in
    rw (c.in_ok-try_push.ensures.answer.1, values, flags) (full_row old (Some c.args.value.now) c.self.invariant)

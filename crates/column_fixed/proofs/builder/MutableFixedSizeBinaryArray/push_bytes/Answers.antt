use Rattle.std.proofs.Common.{◌∙◌, ◌++◌, ap}
use Rattle.std.specs.Prelude.{true}
use Rattle.column_storage.specs.Bits.{bits_given, pushed_flag}
use Rattle.column_fixed.specs.Slots.{fixed_lists, fixed_count}
use Rattle.column_fixed.proofs.RowsLemmas.{sound_value}
use Rattle.column_fixed.proofs.builder.MutableFixedSizeBinaryArray.push_bytes.Goals as goal

pub invariant_of-self-2 : goal.invariant_of-self-2
invariant_of-self-2 c =
    let old = fixed_lists c.self.inside.size c.self.inside.values.items (bits_given c.self.inside.validity) in
    let values = c.in_ok-extend_from_slice.ensures.items ∙ ap (λ items. items ++ c.args.bytes.now) c.in_ok-reserve.ensures.items in
    let flags = c.push_valid_flag.ensures.flags (fixed_count old) ∙ ap (λ flags. pushed_flag (fixed_count old) flags true) c.in_ok-reserve_flags.ensures.same in
    rw (values, flags) (sound_value old c.args.bytes.now c.self.invariant c.if-bytes-self.false)

use Rattle.std.proofs.Common.{◌∙◌, ap, Some}
use Rattle.std.specs.Prelude.{true}
use Rattle.column_storage.specs.Bits.{bits_given, pushed_flag}
use Rattle.column_boolean.specs.Slots.{boolean_lists, boolean_count}
use Rattle.column_boolean.proofs.RowsLemmas.{sound_row}
use Rattle.column_boolean.proofs.builder.MutableBooleanArray.push_value.Goals as goal

pub invariant_of-self-2 : goal.invariant_of-self-2
invariant_of-self-2 c =
    let old = boolean_lists c.self.inside.values.bits (bits_given c.self.inside.validity) in
    let flags = c.push_valid_flag.ensures.flags (boolean_count old) ∙ ap (λ flags. pushed_flag (boolean_count old) flags true) c.in_ok-reserve_flags.ensures.same in
    rw (c.in_ok-push.ensures.answer.1, flags) (sound_row old (Some c.args.value) c.self.invariant)

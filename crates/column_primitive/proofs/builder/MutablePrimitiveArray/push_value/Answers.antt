use Rattle.std.proofs.Common.{◌∙◌, ap}
use Rattle.std.specs.Prelude.{true}
use Rattle.column_storage.specs.Bits.{bits_given, pushed_flag}
use Rattle.column_primitive.specs.Numbers.{number_lists, number_count}
use Rattle.column_primitive.proofs.RowsLemmas.{sound_more}
use Rattle.column_primitive.proofs.builder.MutablePrimitiveArray.push_value.Goals as goal

pub invariant_of-self-2 : goal.invariant_of-self-2
invariant_of-self-2 g c =
    let old = number_lists c.self.inside.values.items (bits_given c.self.inside.validity) in
    let flags = c.push_valid_flag.ensures.flags (number_count old) ∙ ap (λ flags. pushed_flag (number_count old) flags true) c.in_ok-reserve_flags.ensures.same in
    record { own = c.self.invariant.own; sound = rw (c.in_ok-push.ensures.items, flags) (sound_more old c.args.value true c.self.invariant.sound) }

use Rattle.std.proofs.Common.{◌≡◌, None, arith}
use Rattle.std.proofs.lemmas.Grind.{common_steps}
use Rattle.column_storage.specs.Bits.{bits_given}
use Rattle.column_fixed.specs.Slots.{fixed_lists}
use Rattle.column_fixed.specs.Rows.{pushed_row}
use Rattle.column_fixed.proofs.RowsLemmas.{sound_null}
use Rattle.column_fixed.proofs.builder.MutableFixedSizeBinaryArray.push_null.Goals as goal

pub invariant_of-self-2 : goal.invariant_of-self-2
invariant_of-self-2 c =
    let old = fixed_lists c.self.inside.size c.self.inside.values.items (bits_given c.self.inside.validity) in
    let is : fixed_lists c.self.inside.size c.resize.new.self.items (bits_given c.push_null_flag.new.validity) ≡ pushed_row old None = grind (arith, common_steps) in
    rw is (sound_null old c.self.invariant)

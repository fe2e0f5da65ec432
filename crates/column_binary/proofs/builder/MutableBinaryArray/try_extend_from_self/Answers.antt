use Rattle.std.proofs.Common.{◌≡◌, arith}
use Rattle.std.proofs.lemmas.Grind.{common_steps}
use Rattle.column_binary.specs.Slots.{offset_lists}
use Rattle.column_storage.specs.Bits.{bits_given}
use Rattle.column_binary.specs.Rows.{joined_lists}
use Rattle.column_binary.proofs.JoinLemmas.{full_joined, joining}
use Rattle.column_binary.proofs.builder.MutableBinaryArray.try_extend_from_self.Goals as goal

pub invariant_of-self-2 : goal.invariant_of-self-2
unfolding joined_lists
invariant_of-self-2 g c =
    let old = offset_lists c.self.inside.offsets.offsets c.self.inside.values.items (bits_given c.self.inside.validity) in
    let is : offset_lists c.try_extend_from_self.new.self.offsets c.extend_from_slice.new.self.items (bits_given c.add_flags.new.validity) ≡ joined_lists old c.args.other.now.lists = grind (arith, common_steps, joining) in
    rw is (full_joined old c.args.other.now.lists c.self.invariant c.known.ensures.full)

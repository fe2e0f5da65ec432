use Rattle.std.proofs.Common.{◌≡◌, sym, subst, arith}
use Rattle.std.proofs.lemmas.Grind.{common_steps}
use Rattle.column_storage.specs.Bits.{bits_given}
use Rattle.column_fixed.specs.Slots.{fixed_lists}
use Rattle.column_fixed.specs.Rows.{GrowingFixed, joined_lists}
use Rattle.column_fixed.proofs.RowsLemmas.{sound_joined, joining}
use Rattle.column_fixed.proofs.builder.MutableFixedSizeBinaryArray.try_extend_from_self.Goals as goal

pub invariant_of-self-2 : goal.invariant_of-self-2
invariant_of-self-2 c =
    let old = fixed_lists c.self.inside.size c.self.inside.values.items (bits_given c.self.inside.validity) in
    let same : old.width ≡ c.args.other.now.lists.width = subst (λ (v : GrowingFixed). v.lists.width ≡ c.args.other.now.lists.width) (sym c.self.view_is) c.requires in
    let is : fixed_lists c.self.inside.size c.extend_from_slice.new.self.items (bits_given c.add_flags.new.validity) ≡ joined_lists old c.args.other.now.lists = grind (arith, common_steps, joining) in
    rw is (sound_joined old c.args.other.now.lists c.self.invariant c.known.ensures.sound same)

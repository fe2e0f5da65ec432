use Rattle.std.proofs.Common.{◌≡◌, ◌<◌, ◌-◌, length, sym, subst, arith, rules}
use Rattle.column_storage.specs.Bits.{bits_given}
use Rattle.column_fixed.specs.Slots.{fixed_lists, fixed_count}
use Rattle.column_fixed.specs.Rows.{GrowingFixed}
use Rattle.column_fixed.proofs.RowsLemmas.{last_dropped, sound_first}
use Rattle.column_fixed.proofs.builder.MutableFixedSizeBinaryArray.drop_last.Goals as goal

pub invariant_of-self : goal.invariant_of-self
invariant_of-self c =
    let old = fixed_lists c.self.inside.size c.self.inside.values.items (bits_given c.self.inside.validity) in
    let some : 0 < fixed_count old = subst (λ (v : GrowingFixed). 0 < fixed_count v.lists) (sym c.self.view_is) c.requires in
    let at : c.len.result - old.width ≡ length old.values - old.width = search rules in
    let is = last_dropped old _ _ _ c.self.invariant some at c.truncate.ensures.items c.pop_flag.ensures.flags in
    rw is (sound_first old (fixed_count old - 1) c.self.invariant (omega arith))

use Rattle.std.proofs.Common.{◌∙◌, ◌<◌, ◌-◌, ap, sym, subst, arith}
use Rattle.column_binary.specs.Slots.{offset_lists, slot_count}
use Rattle.column_storage.specs.Bits.{bits_given}
use Rattle.column_binary.specs.Rows.{GrowingLists, first_slots}
use Rattle.column_binary.proofs.FirstLemmas.{full_first, front_of, last_dropped}
use Rattle.column_binary.proofs.builder.MutableBinaryArray.drop_last.Goals as goal

pub invariant_of-self : goal.invariant_of-self
invariant_of-self g c =
    let old = offset_lists c.self.inside.offsets.offsets c.self.inside.values.items (bits_given c.self.inside.validity) in
    let some : 0 < slot_count old = subst (λ (v : GrowingLists). 0 < slot_count v.lists) (sym c.self.view_is) c.requires in
    let is = last_dropped old _ _ _ _ _ c.self.invariant some (front_of g.O.Offset.int _ _ _ c.pop.ensures.offsets (omega arith)) c.len_proxy.ensures c.start_end-start.ensures.start c.truncate.ensures.items c.pop_flag.ensures.flags in
    rw is (full_first old (slot_count old - 1) c.self.invariant (omega arith))

pub returns-clause-slots : goal.returns-clause-slots
returns-clause-slots g c =
    let old = offset_lists c.self.inside.offsets.offsets c.self.inside.values.items (bits_given c.self.inside.validity) in
    let some : 0 < slot_count old = subst (λ (v : GrowingLists). 0 < slot_count v.lists) (sym c.self.view_is) c.requires in
    last_dropped old _ _ _ _ _ c.self.invariant some (front_of g.O.Offset.int _ _ _ c.pop.ensures.offsets (omega arith)) c.len_proxy.ensures c.start_end-start.ensures.start c.truncate.ensures.items c.pop_flag.ensures.flags
    ∙ ap (λ (v : GrowingLists). first_slots v.lists (slot_count v.lists - 1)) c.self.view_is

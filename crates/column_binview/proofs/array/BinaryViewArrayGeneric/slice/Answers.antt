use Rattle.std.proofs.Common.{◌+◌, ◌≤◌, sym, subst}
use Rattle.column_binview.specs.Slots.{ViewLists, view_lists, view_count, sliced_views, IsViewPart}
use Rattle.column_binview.proofs.SlotsLemmas.{AreSoundViews-sliced, sums-sliced, part_is}
use Rattle.column_binview.proofs.array.BinaryViewArrayGeneric.slice.Goals as goal

pub invariant_of-self : goal.invariant_of-self
unfolding sliced_views
invariant_of-self g c =
    let within = subst (λ (lists : ViewLists). c.args.offset + c.args.length ≤ view_count lists) (sym c.self.view_is) c.requires in
    rw (c.slice.ensures, c.slice_validity.ensures)
    (AreSoundViews-sliced g.K.ViewKind.IS_UTF8 _ c.args.offset c.args.length c.self.invariant.0 within, sums-sliced _ _ _ c.args.offset c.args.length c.self.invariant.1)

pub returns : goal.returns
unfolding sliced_views
returns g c =
    let old = view_lists c.self.inside.views c.self.inside.buffers c.self.inside.validity in
    let within = subst (λ (lists : ViewLists). c.args.offset + c.args.length ≤ view_count lists) (sym c.self.view_is) c.requires in
    rw (c.slice.ensures, c.slice_validity.ensures)
    (subst (λ (lists : ViewLists). IsViewPart g.K.ViewKind.IS_UTF8 lists c.args.offset c.args.length (sliced_views old c.args.offset c.args.length))
    c.self.view_is (part_is g.K.ViewKind.IS_UTF8 old c.args.offset c.args.length c.self.invariant.0 within))

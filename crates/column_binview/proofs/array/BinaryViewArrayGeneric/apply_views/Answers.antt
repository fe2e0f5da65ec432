use Rattle.std.proofs.Common.{rules, ◌≡◌, ◌∙◌, ◌<◌, List, ℕ, refl, sym, ap, subst}
use Rattle.column_binview.specs.Slots.{ViewLists, view_lists, view_count}
use Rattle.column_binview.specs.Updates.{view_at}
use Rattle.column_binview.proofs.UpdatesLemmas.{made_more, made_all, fine_more, read_at}
use Rattle.column_binview.proofs.array.BinaryViewArrayGeneric.apply_views.Goals as goal

pub loop-i-preserved : goal.loop-i-preserved
loop-i-preserved g c =
    let within : c.loop-i.i < view_count c.args.self.now = search rules in
    let at : c.index-as_slice-i.result ≡ view_at c.args.self.now.views c.loop-i.i =
    read_at c.args.self.now.views c.as_slice.result.now c.loop-i.i c.index-as_slice-i.result c.index-as_slice-i.is (c.as_slice.ensures ∙ c.views.ensures) within in
    let post = subst (λ (view : List ℕ). goal.F-post g c.args.update_view view c.value.result c.update_view.result) at c.update_view.ensures in
    rw c.in_ok-push.ensures.items
    (record {
      made = made_more _ c.args.self.now c.loop-i.i c.loop-i.views.items c.update_view.result c.loop-i.invariant.made (c.value.result, c.value.ensures, post);
      fine = fine_more g.K.ViewKind.IS_UTF8 c.loop-i.views.items c.args.self.now.buffers c.update_view.result c.loop-i.invariant.fine
          (c.requires.fine c.loop-i.i c.value.result c.update_view.result within c.value.ensures post);
    })

pub returns : goal.returns
returns g c =
    let is : c.of_lists.result ≡ view_lists c.loop-i.views.items c.args.self.now.buffers c.args.self.now.flags = search rules in
    let views : c.of_lists.result.views ≡ c.loop-i.views.items = ap (λ (lists : ViewLists). lists.views) is in
    let all : c.loop-i.i ≡ view_count c.args.self.now = search rules in (
      refl,
      (
        is ∙ ap (λ (vs : List (List ℕ)). view_lists vs c.args.self.now.buffers c.args.self.now.flags) (sym views),
        made_all c.args.self.now c.loop-i.i (view_count c.args.self.now) c.loop-i.views.items c.of_lists.result.views c.loop-i.invariant.made all views,
      ),
    )

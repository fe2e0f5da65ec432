use Rattle.std.proofs.Common.{rules, ◌≡◌, ◌∙◌, ◌++◌, ◌∷◌, [], map, replicate}
use Rattle.column_view.specs.Views.{inline_view}
use Rattle.column_view.specs.Cuts.{cut_by}
use Rattle.column_view.proofs.CutsLemmas.{views-more, take_old}
use Rattle.column_view.proofs.view.View.extend_with_inlinable_strided.Goals as goal

pub returns-then-is_err-clause-unchanged : goal.returns-then-is_err-clause-unchanged
returns-then-is_err-clause-unchanged c =
    let same : c.push.new.self.items ≡ c.loop-i.views.items = search rules in
    c.truncate.ensures.items
    ∙ take_old c.push.new.self.items c.args.views.now.items (map inline_view (cut_by c.args.src.now (replicate c.loop-i.i c.args.width))) c.len-before.result
    (same ∙ c.loop-i.invariant) (search rules)

pub loop-i-preserved : goal.loop-i-preserved
loop-i-preserved c =
    let more : c.push.new.self.items ≡ c.loop-i.views.items ++ inline_view c.item_at.result.now ∷ [] = search rules in
    more ∙ views-more c.loop-i.views.items c.args.views.now.items c.args.src.now c.item_at.result.now c.loop-i.i c.args.width c.loop-i.invariant c.item_at.ensures.item

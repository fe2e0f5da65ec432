use Rattle.std.proofs.Common.{◌∙◌, ap}
use Rattle.column_offset.specs.Growth.{GrowingOffsets}
use Rattle.column_offset.proofs.GrowthLemmas.{truncated, on_err}
use Rattle.column_offset.proofs.offsets.Offsets.try_extend_from_lengths.Goals as goal

pub invariant_of-self : goal.invariant_of-self
invariant_of-self g c =
    let same = truncated g.O.Offset.int _ _ _ _ c.truncate.ensures.items (c.len-count.ensures ∙ c.self.inside.offsets.ok.0) c.push_lengths-added.ensures.kept in
    rw same c.self.invariant

pub returns-then-is_err-clause-unchanged : goal.returns-then-is_err-clause-unchanged
returns-then-is_err-clause-unchanged g c =
    let same = truncated g.O.Offset.int _ _ _ _ c.truncate.ensures.items (c.len-count.ensures ∙ c.self.inside.offsets.ok.0) c.push_lengths-added.ensures.kept in
    on_err c.push_lengths-added.result _ (same ∙ ap (λ (v : GrowingOffsets). v.offsets) c.self.view_is)

use Rattle.std.proofs.Common.{rules, ◌≡◌, ◌∙◌, ap, ◌++◌, ◌∷◌, [], List, pos, length}
use Rattle.std.specs.Prelude.{ℤ}
use Rattle.column_binview.proofs.RowsLemmas.{lengths_more}
use Rattle.column_binview.proofs.array.BinaryViewArrayGeneric.variadic_buffer_lengths.Goals as goal

pub loop-i-preserved : goal.loop-i-preserved
loop-i-preserved g c =
    let more : c.push.new.self.items ≡ c.loop-i.lengths.items ++ pos (length c.get.result.now) ∷ [] = search rules in
    more
    ∙ ap (λ (lengths : List ℤ). lengths ++ pos (length c.get.result.now) ∷ []) c.loop-i.invariant
    ∙ lengths_more c.data_buffers-buffers.result.now c.loop-i.i c.get.result.now c.get.ensures

use Rattle.std.proofs.Common.{ℕ, true, List, [], ◌∷◌, ◌++◌, length, ◌∙◌, ap}
use Rattle.column_storage.specs.Bits.{bits_given, pushed_flag}
use Rattle.column_blocks.proofs.RowsLemmas.{flagged-pushed}
use Rattle.column_blocks.proofs.rows.ViewRows.push.Goals as goal

pub invariant_of-self-2 : goal.invariant_of-self-2
invariant_of-self-2 c =
    let old = c.self.inside.views.views in
    let views = c.push.ensures.views ∙ ap (λ (vs : List (List ℕ)). vs ++ c.args.view ∷ []) c.in_ok-reserve.ensures.same in
    let flags = c.push_valid_flag.ensures.flags (length old) ∙ ap (λ flags. pushed_flag (length old) flags true) c.in_ok-reserve_flags.ensures.same in
    rw (views, flags) (flagged-pushed old c.args.view (bits_given c.self.inside.validity) true c.self.invariant)

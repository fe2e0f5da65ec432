use Rattle.std.proofs.Common.{rules, ◌≡◌, ℕ, true, List, [], None, refl, subst, sym}
use Rattle.std.proofs.lemmas.List.{get_or_default}
use Rattle.column_binview.specs.Updates.{view_at}
use Rattle.column_view.specs.ViewFaults.{view_fault}
use Rattle.column_binview.proofs.SlotsLemmas.{fine_at}
use Rattle.column_binview_tests.proofs.checks.applied_is.Goals as goal

pub apply_views-requires : goal.apply_views-requires
apply_views-requires c κs = (
  (refl, tt),
  (
    search rules,
    λ i item new within same made.
        let array = c.in_ok-array.array in
        let view = view_at array.views i in
        let is : new ≡ view = search rules in
        subst (λ (v : List ℕ). view_fault true v array.buffers ≡ None) (sym is)
        (fine_at true array i view (get_or_default array.views i [] view within) c.known.ensures.sound within),
  ),
)

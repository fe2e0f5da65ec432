use Rattle.std.proofs.Common.{◌≡◌, ℕ, false, List, None, sym, subst}
use Rattle.column_view.specs.ViewFaults.{views_fault}
use Rattle.column_blocks.specs.Sources.{source_at}
use Rattle.column_binview_tests.proofs.source_checks.extended.Goals as goal

pub extend_non_null_views-requires-clause-fine : goal.extend_non_null_views-requires-clause-fine
extend_non_null_views-requires-clause-fine c =
    c.given_views_are_fine.ensures false (source_at c.args.builder.now.bytes.taken c.args.number) (λ s. s.rest.items) c.into_iter-views.result (λ s view t step. step.0)
    (subst (λ (views : List (List ℕ)). views_fault false views (source_at c.args.builder.now.bytes.taken c.args.number) ≡ None) (sym c.into_iter-views.ensures.rest) c.requires.fine)

pub extend_non_null_views_trusted_len-requires-clause-fine : goal.extend_non_null_views_trusted_len-requires-clause-fine
extend_non_null_views_trusted_len-requires-clause-fine c =
    c.given_views_are_fine.ensures false (source_at c.args.builder.now.bytes.taken c.args.number) (λ s. s.rest.items) c.into_iter-views.result (λ s view t step. step.0)
    (subst (λ (views : List (List ℕ)). views_fault false views (source_at c.args.builder.now.bytes.taken c.args.number) ≡ None) (sym c.into_iter-views.ensures.rest) c.requires.fine)

pub extend_non_null_views_unchecked_dedupe-requires-clause-fine : goal.extend_non_null_views_unchecked_dedupe-requires-clause-fine
extend_non_null_views_unchecked_dedupe-requires-clause-fine c =
    c.given_views_are_fine.ensures false (source_at c.args.builder.now.bytes.taken c.args.number) (λ s. s.rest.items) c.into_iter-views.result (λ s view t step. step.0)
    (subst (λ (views : List (List ℕ)). views_fault false views (source_at c.args.builder.now.bytes.taken c.args.number) ≡ None) (sym c.into_iter-views.ensures.rest) c.requires.fine)

pub extend_non_null_views_unchecked-requires-clause-fine : goal.extend_non_null_views_unchecked-requires-clause-fine
extend_non_null_views_unchecked-requires-clause-fine c =
    c.given_views_are_fine.ensures false (source_at c.args.builder.now.bytes.taken c.args.number) (λ s. s.rest.items) c.into_iter-views.result (λ s view t step. step.0)
    (subst (λ (views : List (List ℕ)). views_fault false views (source_at c.args.builder.now.bytes.taken c.args.number) ≡ None) (sym c.into_iter-views.ensures.rest) c.requires.fine)

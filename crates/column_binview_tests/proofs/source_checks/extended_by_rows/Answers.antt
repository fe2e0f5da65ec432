use Rattle.std.proofs.Common.{◌≡◌, ℕ, false, List, Option, None, sym, subst}
use Rattle.std.specs.List.{filter_map}
use Rattle.column_view.specs.ViewFaults.{views_fault}
use Rattle.column_blocks.specs.Sources.{source_at}
use Rattle.column_binview_tests.proofs.source_checks.extended_by_rows.Goals as goal

pub extend_views_trusted_len-requires-clause-fine : goal.extend_views_trusted_len-requires-clause-fine
extend_views_trusted_len-requires-clause-fine c =
    c.given_rows_are_fine.ensures false (source_at c.args.builder.now.bytes.taken c.args.number) (λ s. s.rest.items) c.into_iter-rows.result (λ s row t step. step.0)
    (subst (λ (rows : List (Option (List ℕ))). views_fault false (filter_map (λ row. row) rows) (source_at c.args.builder.now.bytes.taken c.args.number) ≡ None) (sym c.into_iter-rows.ensures.rest) c.requires.fine)

pub extend_views-requires-clause-fine : goal.extend_views-requires-clause-fine
extend_views-requires-clause-fine c =
    c.given_rows_are_fine.ensures false (source_at c.args.builder.now.bytes.taken c.args.number) (λ s. s.rest.items) c.into_iter-rows.result (λ s row t step. step.0)
    (subst (λ (rows : List (Option (List ℕ))). views_fault false (filter_map (λ row. row) rows) (source_at c.args.builder.now.bytes.taken c.args.number) ≡ None) (sym c.into_iter-rows.ensures.rest) c.requires.fine)

use Rattle.std.proofs.Common.{◌≡◌, ◌++◌, drop, option_map}
use Rattle.serde_json.specs.View.{items_view}
use Rattle.column_document.specs.Values.{each, row_of}
use Rattle.column_document.proofs.rows.read_rows.Given as goal

abbrev pub invariant-loop-value : goal.invariant-loop-value
invariant-loop-value l = each row_of (items_view l.values) ≡ option_map (λ rest. l.rows ++ rest) (each row_of (items_view (drop l.value-index l.values)))

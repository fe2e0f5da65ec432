use Rattle.std.proofs.Common.{◌≡◌, ◌++◌, drop, option_map}
use Rattle.serde_json.specs.View.{items_view}
use Rattle.column_document.specs.Values.{each}
use Rattle.column_document.proofs.from_json.read_each.Given as goal

abbrev pub invariant-loop-value : goal.invariant-loop-value
invariant-loop-value g l = each g.T.FromJson.of (items_view l.values) ≡ option_map (λ rest. l.list.items ++ rest) (each g.T.FromJson.of (items_view (drop l.value-index l.values)))

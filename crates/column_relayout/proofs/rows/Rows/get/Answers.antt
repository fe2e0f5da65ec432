-- The place that is read is within the bytes.
use Rattle.std.proofs.Common.{◌∙◌, ℕ, List, ap, length}
use Rattle.column_relayout.specs.Places.{row_at, IsWithin}
use Rattle.column_relayout.proofs.PlacesLemmas.{one_row, one_within}
use Rattle.column_relayout.proofs.rows.Rows.get.Goals as goal

pub placed-requires : goal.placed-requires
placed-requires c =
    rw c.deref.ensures.value
    (one_within c.self.inside.bytes.items c.self.inside.places.items c.args.self.now c.args.i c.index.result.now c.self.view_is c.requires c.index.ensures c.self.invariant)

pub returns : goal.returns
returns c =
    c.placed.ensures ∙ ap (λ (bytes : List ℕ). row_at bytes c.index.result.now) c.deref.ensures.value
    ∙ one_row c.self.inside.bytes.items c.self.inside.places.items c.args.self.now c.args.i c.index.result.now c.self.view_is c.requires c.index.ensures

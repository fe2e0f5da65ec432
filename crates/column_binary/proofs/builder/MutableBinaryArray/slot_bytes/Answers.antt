use Rattle.std.proofs.Common.{rules, ◌≤◌, ◌∙◌, ap, length, ℕ, List, slice_range, refl}
use Rattle.std.specs.List.{concat}
use Rattle.column_offset.specs.Text.{pieces}
use Rattle.column_binary.specs.Slots.{offset_lists}
use Rattle.column_storage.specs.Bits.{bits_given}
use Rattle.column_binary.specs.Rows.{GrowingLists}
use Rattle.column_binary.proofs.JoinLemmas.{bytes_from, start_within}
use Rattle.column_binary.proofs.builder.MutableBinaryArray.slot_bytes.Goals as goal

pub slice_bounds-result-count : goal.slice_bounds-result-count
slice_bounds-result-count g c =
    let old = offset_lists c.self.inside.offsets.offsets c.self.inside.values.items (bits_given c.self.inside.validity) in
    rw c.deref.ensures.value (start_within old c.to_usize-start.result c.self.invariant (c.to_usize-start.ensures.same ∙ c.first.ensures.same))

pub slice_bounds-result-start : goal.slice_bounds-result-start
slice_bounds-result-start g c =
    let old = offset_lists c.self.inside.offsets.offsets c.self.inside.values.items (bits_given c.self.inside.validity) in
    let within : c.to_usize-start.result ≤ length c.deref.result.now = rw c.deref.ensures.value (start_within old c.to_usize-start.result c.self.invariant (c.to_usize-start.ensures.same ∙ c.first.ensures.same)) in
    search rules

pub returns : goal.returns
returns g c =
    let old = offset_lists c.self.inside.offsets.offsets c.self.inside.values.items (bits_given c.self.inside.validity) in
    ap (λ (values : List ℕ). slice_range values c.to_usize-start.result (length values)) c.deref.ensures.value
    ∙ bytes_from old c.to_usize-start.result (length c.self.inside.values.items) c.self.invariant (c.to_usize-start.ensures.same ∙ c.first.ensures.same) refl
    ∙ ap (λ (v : GrowingLists). concat (pieces v.lists.offsets v.lists.values)) c.self.view_is

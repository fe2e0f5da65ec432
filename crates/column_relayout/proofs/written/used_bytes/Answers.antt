-- The bytes lie between the first offset and the last.
use Rattle.std.proofs.Common.{rules, ◌≡◌, ◌≤◌, ◌∙◌, ℕ, ℤ, List, length, slice_range, ap, arith}
use Rattle.column_offset.specs.Offsets.{last_of, offset_at, nat_of}
use Rattle.column_relayout.proofs.WrittenLemmas.{used_are, used_end, used_order, used_count}
use Rattle.column_relayout.proofs.written.used_bytes.Goals as goal

pub slice_bounds-result-count : goal.slice_bounds-result-count
slice_bounds-result-count g c =
    let start : c.to_usize-start.result ≡ nat_of (offset_at c.args.array.now.offsets 0) = ap nat_of (c.to_usize-start.ensures.same ∙ c.first.ensures.same ∙ ap (λ (offsets : List ℤ). offset_at offsets 0) c.offsets.ensures) in
    let end : c.to_usize-end.result ≡ nat_of (last_of c.args.array.now.offsets) = ap nat_of (c.to_usize-end.ensures.same ∙ c.last.ensures.same ∙ ap last_of c.offsets-2.ensures) in
    let order = used_order c.args.array.now c.known.ensures.sound in
    omega (arith, start, end, order)

pub slice_bounds-result-start : goal.slice_bounds-result-start
slice_bounds-result-start g c =
    let start : c.to_usize-start.result ≡ nat_of (offset_at c.args.array.now.offsets 0) = ap nat_of (c.to_usize-start.ensures.same ∙ c.first.ensures.same ∙ ap (λ (offsets : List ℤ). offset_at offsets 0) c.offsets.ensures) in
    let order = used_order c.args.array.now c.known.ensures.sound in
    let within = used_end c.args.array.now c.known.ensures.sound in
    let size : length c.as_slice.result.now ≡ length c.args.array.now.values = ap length (c.as_slice.ensures ∙ c.values.ensures) in
    let inside : c.to_usize-start.result ≤ length c.as_slice.result.now = omega (arith, start, order, within, size) in
    search rules

pub slice_bounds-result-end : goal.slice_bounds-result-end
slice_bounds-result-end g c =
    let end : c.to_usize-end.result ≡ nat_of (last_of c.args.array.now.offsets) = ap nat_of (c.to_usize-end.ensures.same ∙ c.last.ensures.same ∙ ap last_of c.offsets-2.ensures) in
    let within = used_end c.args.array.now c.known.ensures.sound in
    let size : length c.as_slice.result.now ≡ length c.args.array.now.values = ap length (c.as_slice.ensures ∙ c.values.ensures) in
    let inside : c.to_usize-end.result ≤ length c.as_slice.result.now = omega (arith, end, within, size) in
    search rules

pub returns-clause-bytes : goal.returns-clause-bytes
returns-clause-bytes g c =
    let start : c.to_usize-start.result ≡ nat_of (offset_at c.args.array.now.offsets 0) = ap nat_of (c.to_usize-start.ensures.same ∙ c.first.ensures.same ∙ ap (λ (offsets : List ℤ). offset_at offsets 0) c.offsets.ensures) in
    let end : c.to_usize-end.result ≡ nat_of (last_of c.args.array.now.offsets) = ap nat_of (c.to_usize-end.ensures.same ∙ c.last.ensures.same ∙ ap last_of c.offsets-2.ensures) in
    ap (λ (values : List ℕ). slice_range values c.to_usize-start.result c.to_usize-end.result) (c.as_slice.ensures ∙ c.values.ensures)
    ∙ ap (λ (n : ℕ). slice_range c.args.array.now.values n c.to_usize-end.result) start
    ∙ ap (λ (n : ℕ). slice_range c.args.array.now.values (nat_of (offset_at c.args.array.now.offsets 0)) n) end
    ∙ used_are c.args.array.now c.known.ensures.sound

pub returns-clause-within_type : goal.returns-clause-within_type
returns-clause-within_type g c = used_count c.args.array.now c.known.ensures.sound g.O.Offset.GREATEST c.known.ensures.within_type

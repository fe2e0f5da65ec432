use Rattle.std.proofs.Common.{◌≡◌, sym, subst, ℕ, false, List, None}
use Rattle.column_view.specs.ViewFaults.{layout_fault}
use Rattle.column_blocks.specs.Blocks.{ByteBlocks, buffers_of, stored}
use Rattle.column_blocks_tests.proofs.checks.is_read_again.Goals as goal

-- src/checks.rt:69:8
pub value_from_view_unchecked-requires : goal.value_from_view_unchecked-requires
value_from_view_unchecked-requires c =
    let (none, same) = c.in_ok-view.ensures.answer in
    let says = c.stored_view_says_its_bytes.ensures c.args.blocks.now c.args.bytes.now c.known.ensures none in
    let fine = c.no_fault_in_each.ensures.layout false _ _ (says.fine false (λ is. absurd (cc))) in
    let seen = subst (λ (view : List ℕ). layout_fault view (buffers_of (stored c.args.blocks.now c.args.bytes.now)) ≡ None) (sym same.0) fine in
    subst (λ (blocks : ByteBlocks). layout_fault c.in_ok-view.view (buffers_of blocks) ≡ None) (sym same.1) seen

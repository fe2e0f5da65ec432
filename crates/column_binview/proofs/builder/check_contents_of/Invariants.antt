use Rattle.std.proofs.Common.{◌≡◌, drop, false, None}
use Rattle.column_view.specs.ViewFaults.{views_fault, contents_fault}
use Rattle.column_blocks.specs.Blocks.{buffers_of}
use Rattle.column_binview.proofs.builder.check_contents_of.Given as goal

abbrev pub invariant-loop-view : goal.invariant-loop-view
invariant-loop-view l = record {
  fault : contents_fault (drop l.view-index l.views) (buffers_of l.blocks) ≡ contents_fault l.views (buffers_of l.blocks);
  sound : views_fault false (drop l.view-index l.views) (buffers_of l.blocks) ≡ None;
}

use Rattle.std.proofs.Common.{◌≡◌, drop, false, None}
use Rattle.column_view.specs.ViewFaults.{views_fault, contents_fault}
use Rattle.column_view.proofs.validate.check_contents.Given as goal

abbrev pub invariant-loop-view : goal.invariant-loop-view
invariant-loop-view l = record {
  fault : contents_fault (drop l.view-index l.views) l.buffers ≡ contents_fault l.views l.buffers;
  sound : views_fault false (drop l.view-index l.views) l.buffers ≡ None;
}

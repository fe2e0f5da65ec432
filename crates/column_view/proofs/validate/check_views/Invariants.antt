use Rattle.std.proofs.Common.{◌≡◌, drop}
use Rattle.column_view.specs.ViewFaults.{views_fault}
use Rattle.column_view.proofs.validate.check_views.Given as goal

abbrev pub invariant-loop-view : goal.invariant-loop-view
invariant-loop-view l = views_fault l.is_text (drop l.view-index l.views) l.buffers ≡ views_fault l.is_text l.views l.buffers

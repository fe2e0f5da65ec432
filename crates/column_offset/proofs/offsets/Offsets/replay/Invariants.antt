use Rattle.column_offset.proofs.OperationsLemmas.{Replays}
use Rattle.column_offset.proofs.offsets.Offsets.replay.Given as goal

abbrev pub invariant-loop-operation : goal.invariant-loop-operation
invariant-loop-operation g l = Replays g.O.Offset.GREATEST l.operations l.operation-index l.offsets.offsets

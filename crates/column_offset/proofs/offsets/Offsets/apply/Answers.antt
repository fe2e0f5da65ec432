use Rattle.std.proofs.Common.{refl}
use Rattle.column_offset.proofs.OperationsLemmas.{push_answers, popped_of}
use Rattle.column_offset.proofs.offsets.Offsets.apply.Goals as goal

pub returns-in-Push : goal.returns-in-Push
returns-in-Push g c = λ lengths made. rw c.in-Push.is (push_answers _ c.try_push.result lengths _ _ c.in-Push.length made c.try_push.ensures.answer)

pub returns-in-Pop : goal.returns-in-Pop
returns-in-Pop g c = λ lengths made. rw c.in-Pop.is (refl, popped_of g.O.Offset.int c.pop-last.result lengths _ _ made c.pop-last.ensures.offsets)

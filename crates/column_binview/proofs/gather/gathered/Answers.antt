use Rattle.column_binview.proofs.GatheredLemmas.{gathered_flags, gathered_after}
use Rattle.column_binview.proofs.gather.gathered.Goals as goal

pub with_validity-requires : goal.with_validity-requires
with_validity-requires g c =
    gathered_flags c.args.array c.known.ensures.flagged c.in_ok-builder.builder c.in_ok-builder.ensures.answer.0 c.in_ok-builder.ensures.answer.1 c.in_ok-made.made _ c.in_ok-made.ensures.1 c.into_lists-validity.ensures.flags

pub returns-clause-answer : goal.returns-clause-answer
returns-clause-answer g c = (
  c.in_ok-builder.ensures.answer.0,
  gathered_after c.args.array c.known.ensures.flagged c.in_ok-builder.builder c.in_ok-builder.ensures.answer.0 c.in_ok-builder.ensures.answer.1 c.in_ok-made.made c.with_validity.result _ c.in_ok-made.ensures.1 c.into_lists-validity.ensures.flags c.with_validity.ensures,
)

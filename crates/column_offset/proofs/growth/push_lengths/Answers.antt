use Rattle.std.proofs.Common.{◌∙◌, sym, ap, subst, map, Err, arith}
use Rattle.std.proofs.lemmas.Result.{err_from_is_err_and}
use Rattle.std.specs.Iterator.{Yields}
use Rattle.column_offset.specs.Growth.{pushed}
use Rattle.column_offset.proofs.GrowthLemmas.{refused_at, extended-snoc, sum_more, kept_front}
use Rattle.column_offset.proofs.growth.push_lengths.Goals as goal

pub returns-in_err-last-clause-added : goal.returns-in_err-last-clause-added
returns-in_err-last-clause-added g c =
    refused_at g.I.Iterator.next_gives g.O.Offset.GREATEST c.args.lengths _ _ (map g.O.Offset.int c.args.offsets.now.items) (map g.O.Offset.int c.push_after.new.offsets.items) c.loop-length.yielded c.in-Some.length c.loop-length.last _ _ c.in_err-last.field-0.0
    (subst (λ s. Yields g.I.Iterator.next_gives s c.loop-length.yielded c.loop-length.length-iterator) c.into_iter-length-iterator.ensures.into_iter_gives c.loop-length.yielded_by)
    c.in-Some.ensures.steps
    c.loop-length.invariant.last
    c.in_err-last.ensures.answer
    ((err_from_is_err_and c.from_residual.result c.from_residual.ensures.1).1 ∙ ap Err (err_from_is_err_and c.from_residual.result c.from_residual.ensures.1).2)

pub returns-in_err-last-clause-kept : goal.returns-in_err-last-clause-kept
returns-in_err-last-clause-kept g c =
    kept_front _ _ _ c.loop-length.yielded (ap (map g.O.Offset.int) c.in_err-last.ensures.unchanged ∙ c.loop-length.invariant.added)

pub returns-clause-kept : goal.returns-clause-kept
returns-clause-kept g c = kept_front _ _ _ c.loop-length.yielded c.loop-length.invariant.added

pub loop-length-preserved : goal.loop-length-preserved
loop-length-preserved g c = record {
  added = c.in_ok-last.ensures.answer.1.2 ∙ ap (λ offsets. pushed offsets c.in-Some.length) c.loop-length.invariant.added ∙ sym (extended-snoc _ c.loop-length.yielded c.in-Some.length);
  within = c.in_ok-last.ensures.within;
  last = sum_more _ _ _ _ c.loop-length.yielded c.in_ok-last.ensures.answer.1.0 c.loop-length.invariant.last;
  capacity = omega (arith, c.loop-length.invariant.capacity, c.in_ok-last.ensures.capacity);
  limit = c.in_ok-last.ensures.answer.1.1;
}

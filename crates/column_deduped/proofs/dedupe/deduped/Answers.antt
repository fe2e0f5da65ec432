use Rattle.std.proofs.Common.{◌≡◌, ◌∙◌, sym, refl, length, arith}
use Rattle.std.proofs.lemmas.Bool.Decides.{nat_tests}
use Rattle.column_deduped.proofs.DedupedLemmas.{deduped-none}
use Rattle.column_deduped.proofs.TakenLemmas as lemmas
use Rattle.column_deduped.proofs.dedupe.deduped.Goals as goal

pub returns-then-is_empty : goal.returns-then-is_empty
returns-then-is_empty g c =
    let none : length c.args.array.buffers ≡ 0 = grind (arith, nat_tests, c.if-is_empty.true, c.is_empty.ensures, c.data_buffers.ensures) in
    (refl, sym (deduped-none g.K.ViewKind.IS_UTF8 c.args.array c.known.ensures.sound none))

pub with_validity-requires : goal.with_validity-requires
with_validity-requires g c =
    lemmas.flags-fit c.args.array c.in_ok-made.made c.in_ok-builder.builder c.as_slice.result.now c.into_lists-views.result.1 c.into_lists-views.result.2
    (c.as_slice.ensures ∙ c.into_lists-views.ensures.views) c.into_lists-views.ensures.buffers c.into_lists-views.ensures.flags c.in_ok-builder.ensures.1 c.in_ok-made.ensures.1
    c.known.ensures.flagged

pub returns : goal.returns
returns g c = (
  refl,
  lemmas.with-flags c.args.array c.in_ok-made.made c.in_ok-builder.builder c.as_slice.result.now c.into_lists-views.result.1 c.into_lists-views.result.2
      (c.as_slice.ensures ∙ c.into_lists-views.ensures.views) c.into_lists-views.ensures.buffers c.into_lists-views.ensures.flags c.in_ok-builder.ensures.1 c.in_ok-made.ensures.1
      c.with_validity.result c.with_validity.ensures,
)

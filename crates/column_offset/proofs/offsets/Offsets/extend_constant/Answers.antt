use Rattle.std.proofs.Common.{◌+◌, ◌∙◌, ◌++◌, ap, sym, refl, map, replicate}
use Rattle.column_offset.specs.Offsets.{last_of}
use Rattle.column_offset.specs.Growth.{GrowingOffsets}
use Rattle.column_offset.proofs.GrowthLemmas.{within_constant, grown_constant}
use Rattle.column_offset.proofs.offsets.Offsets.extend_constant.Goals as goal

pub invariant_of-self-2 : goal.invariant_of-self-2
invariant_of-self-2 g c =
    let kept = c.in_ok-reserve.ensures.items in
    let last = c.last-last.ensures.same ∙ sym (ap (λ (v : GrowingOffsets). last_of v.offsets) c.self.view_is) ∙ sym (ap (λ xs. last_of (map g.O.Offset.int xs)) kept) in
    let grown = grown_constant g.O.Offset.int c.reserve.new.self.items c.resize.new.self.items c.last-last.result.now c.args.additional _ _ c.in_ok-resize.ensures.items c.reserve.new.self.ok.0 (ap (λ n. n + c.args.additional) c.len.ensures) last in
    rw (grown, kept) (within_constant _ c.args.additional _ c.self.invariant)

pub returns-clause-answer : goal.returns-clause-answer
returns-clause-answer g c =
    let kept = c.in_ok-reserve.ensures.items in
    let last = c.last-last.ensures.same ∙ sym (ap (λ (v : GrowingOffsets). last_of v.offsets) c.self.view_is) ∙ sym (ap (λ xs. last_of (map g.O.Offset.int xs)) kept) in
    let grown = grown_constant g.O.Offset.int c.reserve.new.self.items c.resize.new.self.items c.last-last.result.now c.args.additional _ _ c.in_ok-resize.ensures.items c.reserve.new.self.ok.0 (ap (λ n. n + c.args.additional) c.len.ensures) last in (
      refl,
      grown
          ∙ ap (λ xs. map g.O.Offset.int xs ++ replicate c.args.additional (last_of (map g.O.Offset.int xs))) kept
          ∙ ap (λ (v : GrowingOffsets). v.offsets ++ replicate c.args.additional (last_of v.offsets)) c.self.view_is,
    )

-- The bytes of one number more.
use Rattle.std.proofs.Common.{rules, ◌≡◌, ◌∙◌, ◌++◌, ap, List, ℕ, pos, get_or}
use Rattle.std.specs.Int.{w64}
use Rattle.std.proofs.lemmas.List.{get_or_default}
use Rattle.column_base.specs.Native.{signed_bytes}
use Rattle.column_rows.proofs.NumbersLemmas.{bytes_next}
use Rattle.column_rows.proofs.numbers.bytes_of_each.Goals as goal

pub loop-number-preserved : goal.loop-number-preserved
loop-number-preserved c =
    let numbers = c.args.numbers.now in
    let i = c.loop-number.number-index in
    let x = get_or numbers i (pos 0) in
    let made : c.to_le_bytes.result ≡ signed_bytes w64 x = search rules in
    bytes_next numbers i x c.loop-number.bytes.items c.extend_from_slice.new.self.items c.loop-number-test.true
    (get_or_default numbers i (pos 0) x c.loop-number-test.true) c.loop-number.invariant
    (c.in_ok-extend_from_slice.ensures.items ∙ ap (λ (bs : List ℕ). c.loop-number.bytes.items ++ bs) made)

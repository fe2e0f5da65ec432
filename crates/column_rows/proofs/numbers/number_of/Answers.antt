-- The bytes are those of the number that they are read as.
use Rattle.std.proofs.Common.{ℕ, ◌<◌, ◌∙◌, ap, List, get_or, arith}
use Rattle.std.specs.Int.{w64, cast_signed, from_le_bytes}
use Rattle.column_rows.proofs.NumbersLemmas.{bytes_back}
use Rattle.column_rows.proofs.numbers.number_of.Goals as goal

pub returns : goal.returns
returns c =
    let bytes = c.args.bytes.now in
    let small : (i : ℕ) → get_or bytes i 0 < 256 = λ i. omega (arith, c.type_inv.bytes i) in
    bytes_back bytes c.from_le_bytes.result c.requires small
    (c.from_le_bytes.ensures ∙ ap (λ (bs : List ℕ). cast_signed w64 (from_le_bytes w64 bs)) c.in-Some.ensures.cases.same)

-- The lists of 8 bytes a number are sound, and mean the same slots.
use Rattle.std.proofs.Common.{◌∙◌, ap, refl}
use Rattle.column_fixed.specs.Slots.{FixedLists, fixed_slots}
use Rattle.column_rows.proofs.NumbersLemmas.{bytes_of_lists}
use Rattle.column_rows.proofs.numbers.bytes_of_numbers.Goals as goal

pub new-requires-clause-lists : goal.new-requires-clause-lists
new-requires-clause-lists c =
    let both = bytes_of_lists c.args.array.now.lists c.as_slice.result.now c.in_ok-values.values c.in_ok-validity.validity c.known.ensures.sound
    (c.as_slice.ensures ∙ c.values.ensures) (c.in_ok-values.ensures.1 ∙ c.in_ok-bytes.ensures.1) (c.in_ok-validity.ensures.1 ∙ c.validity.ensures) in
    (c.no_fault_is_sound.ensures _).1 both.0

pub returns : goal.returns
returns c =
    let both = bytes_of_lists c.args.array.now.lists c.as_slice.result.now c.in_ok-values.values c.in_ok-validity.validity c.known.ensures.sound
    (c.as_slice.ensures ∙ c.values.ensures) (c.in_ok-values.ensures.1 ∙ c.in_ok-bytes.ensures.1) (c.in_ok-validity.ensures.1 ∙ c.validity.ensures) in
    (refl, (ap (λ (lists : FixedLists). lists.width) c.new.ensures, ap fixed_slots c.new.ensures ∙ both.1))

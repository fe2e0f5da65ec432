-- The lists are those of the same slots, and have no fault.
use Rattle.std.proofs.Common.{◌≡◌, ◌∙◌, ℤ, List, ap, refl, arith}
use Rattle.std.specs.Prelude.{sum}
use Rattle.column_storage.specs.Bits.{bits_given}
use Rattle.column_offset.specs.Growth.{lengths_of}
use Rattle.column_binary.specs.Slots.{offset_slots}
use Rattle.column_relayout.specs.Written.{bytes_in}
use Rattle.column_relayout.proofs.WrittenLemmas.{lengths_are, taken_lists, hold_taken, no_fault_where_full, no_error}
use Rattle.column_relayout.proofs.written.taken_over.Goals as goal

pub offsets_over-requires : goal.offsets_over-requires
offsets_over-requires g c =
    let is : sum (lengths_of c.offsets.result.now) ≡ bytes_in (offset_slots c.args.array.now) = ap (λ (offsets : List ℤ). sum (lengths_of offsets)) c.offsets.ensures ∙ ap sum (lengths_are c.args.array.now c.known.ensures.sound) in
    omega (arith, is, c.requires)

pub returns-in_err-builder : goal.returns-in_err-builder
returns-in_err-builder g c =
    let is = taken_lists c.args.array.now c.in_ok-offsets.offsets.offsets c.offsets.result.now c.extend_from_slice.new.self.items c.in_ok-values.values.items c.used_bytes-bytes.result.now (bits_given c.in_ok-validity.validity)
    c.in_ok-offsets.ensures.1 c.offsets.ensures (c.in_ok-extend_from_slice.ensures {u = tt}).items (c.in_ok-values.ensures {u = tt}).items c.used_bytes-bytes.ensures.bytes (c.in_ok-validity.ensures.1 ∙ c.in_ok-share_validity.ensures.1 ∙ c.validity.ensures) in
    let hold = hold_taken c.args.array.now _ c.known.ensures.sound is in
    absurd (no_error c.in_err-builder.field-0.0 _ _ c.in_err-builder.ensures (no_fault_where_full _ _ hold.full c.default_dtype.ensures.own))

pub returns : goal.returns
returns g c =
    let is = taken_lists c.args.array.now c.in_ok-offsets.offsets.offsets c.offsets.result.now c.extend_from_slice.new.self.items c.in_ok-values.values.items c.used_bytes-bytes.result.now (bits_given c.in_ok-validity.validity)
    c.in_ok-offsets.ensures.1 c.offsets.ensures (c.in_ok-extend_from_slice.ensures {u = tt}).items (c.in_ok-values.ensures {u = tt}).items c.used_bytes-bytes.ensures.bytes (c.in_ok-validity.ensures.1 ∙ c.in_ok-share_validity.ensures.1 ∙ c.validity.ensures) in
    (refl, hold_taken c.args.array.now c.in_ok-builder.builder.lists c.known.ensures.sound (c.in_ok-builder.ensures.1 ∙ is))

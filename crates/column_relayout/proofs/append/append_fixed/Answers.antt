-- The rows have the width, and all slots have room.
use Rattle.std.proofs.Common.{◌≡◌, ◌∙◌, ◌+◌, ◌*◌, ◌^◌, ℕ, length, sym, ap, inl, refl, true, false, nat_lt, Err}
use Rattle.std.specs.List.{list_all}
use Rattle.std.proofs.lemmas.Result.{err_from_is_err_and}
use Rattle.column_fixed.specs.Slots.{fixed_slots}
use Rattle.column_fixed.specs.Rows.{is_of_width}
use Rattle.column_relayout.specs.declared.steps.Step.TheVariants.{Append}
use Rattle.column_relayout.specs.Columns.{fixed_column}
use Rattle.column_relayout.proofs.StepsLemmas.{refused_never}
use Rattle.column_relayout.proofs.AppendLemmas.{fixed_rows_fine, fixed_rows_wrong, fixed_rows_full, fixed_rows_steps}
use Rattle.column_relayout.proofs.append.append_fixed.Goals as goal

pub returns-then-not-are_of_width : goal.returns-then-not-are_of_width
returns-then-not-are_of_width c =
    let no : list_all (is_of_width c.args.array.width) c.args.rows.now ≡ false = ap (λ (w : ℕ). list_all (is_of_width w) c.args.rows.now) (sym c.size-width.ensures.size) ∙ sym c.are_of_width.ensures ∙ c.if-not-are_of_width.true in
    rw c.into.ensures (inl (fixed_rows_wrong c.args.array.width (fixed_slots c.args.array) c.args.rows.now no), refl)

pub returns-then-not-have_room : goal.returns-then-not-have_room
returns-then-not-have_room c =
    let all : list_all (is_of_width c.args.array.width) c.args.rows.now ≡ true = ap (λ (w : ℕ). list_all (is_of_width w) c.args.rows.now) (sym c.size-width.ensures.size) ∙ sym c.are_of_width.ensures ∙ c.if-not-are_of_width.false in
    let room : nat_lt ((length (fixed_slots c.args.array) + length c.args.rows.now) * c.args.array.width) (2 ^ 64) ≡ false =
    rw (sym c.len.ensures.slots, sym c.len-2.ensures, sym c.size-width.ensures.size) (sym c.have_room.ensures ∙ c.if-not-have_room.true) in
    rw c.into-then-not-have_room.ensures (inl (fixed_rows_full c.args.array.width (fixed_slots c.args.array) c.args.rows.now all room), refl)

pub fixed_with_rows-requires : goal.fixed_with_rows-requires
fixed_with_rows-requires c = ap (λ (w : ℕ). list_all (is_of_width w) c.args.rows.now) (sym c.size-width.ensures.size) ∙ sym c.are_of_width.ensures ∙ c.if-not-are_of_width.false

pub returns-in_err-new : goal.returns-in_err-new
returns-in_err-new c =
    let all : list_all (is_of_width c.args.array.width) c.args.rows.now ≡ true = ap (λ (w : ℕ). list_all (is_of_width w) c.args.rows.now) (sym c.size-width.ensures.size) ∙ sym c.are_of_width.ensures ∙ c.if-not-are_of_width.false in
    let room : nat_lt ((length (fixed_slots c.args.array) + length c.args.rows.now) * c.args.array.width) (2 ^ 64) ≡ true =
    rw (sym c.len.ensures.slots, sym c.len-2.ensures, sym c.size-width.ensures.size) (sym c.have_room.ensures ∙ c.if-not-have_room.false) in
    let is = err_from_is_err_and c.from_residual.result c.from_residual.ensures.1 in
    rw (is.1 ∙ ap Err is.2) (refused_never (λ new. fixed_column new) (fixed_column c.args.array) (Append c.args.rows.now) _ c.in_err-new.field-0.0 c.in_err-new.ensures (fixed_rows_fine c.args.array.width (fixed_slots c.args.array) c.args.rows.now all room))

pub returns : goal.returns
returns c =
    let all : list_all (is_of_width c.args.array.width) c.args.rows.now ≡ true = ap (λ (w : ℕ). list_all (is_of_width w) c.args.rows.now) (sym c.size-width.ensures.size) ∙ sym c.are_of_width.ensures ∙ c.if-not-are_of_width.false in
    let room : nat_lt ((length (fixed_slots c.args.array) + length c.args.rows.now) * c.args.array.width) (2 ^ 64) ≡ true =
    rw (sym c.len.ensures.slots, sym c.len-2.ensures, sym c.size-width.ensures.size) (sym c.have_room.ensures ∙ c.if-not-have_room.false) in (
      fixed_rows_fine c.args.array.width (fixed_slots c.args.array) c.args.rows.now all room,
      fixed_rows_steps c.args.array c.in_ok-new.new c.args.rows.now c.in_ok-new.ensures.1.0 c.in_ok-new.ensures.1.1 c.known.ensures,
    )

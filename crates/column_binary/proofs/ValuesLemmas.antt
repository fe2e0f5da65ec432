-- Laws of lists without flags.
use Rattle.std.proofs.Common.{◌≡◌, ℕ, ◌-◌, ◌<◌, ◌≤◌, ℤ, pos, Bool, true, false, List, Option, Some, None, refl, sym, ◌∙◌, ap, arith, inl, inr}
use Rattle.std.specs.Prelude.{◌+ℤ◌, int_lt, option_map, MatchOption, ◌==◌, Result, Ok, Err, IfOk}
use Rattle.std.proofs.lemmas.Bool.{cases_lt}
use Rattle.std.proofs.lemmas.Bool.Decides.{nat_tests}
use Rattle.std.proofs.lemmas.Int.{ints}
use Rattle.column_base.specs.declared.errors.PolarsError.{PolarsError}
use Rattle.column_base.specs.Answers.{Answers}
use Rattle.column_base.specs.Slots.{slot_at}
use Rattle.column_storage.specs.Bits.{frozen_flags}
use Rattle.column_storage.specs.Validity.{is_valid_at}
use Rattle.column_offset.specs.Growth.{limit_fault}
use Rattle.column_binary.specs.Slots.{OffsetLists, offset_lists, slot_count, offset_slots}
use Rattle.column_binary.specs.Rows.{AreFullLists, last_row, pushed_row, first_slots, frozen_lists, joined_lists}
use Rattle.column_binary.proofs.SlotsLemmas.{valid_at}

not_passed : (greatest n : ℕ) (last : ℤ) → pos n ≡ last → n ≤ greatest → int_lt (pos greatest) (last +ℤ pos 0) ≡ false
not_passed greatest n last e within = grind (arith, ints)

pub limit_none : (greatest n : ℕ) (last : ℤ) → pos n ≡ last → n ≤ greatest → limit_fault greatest (last +ℤ pos 0) ≡ None
limit_none greatest n last e within = rw (not_passed greatest n last e within) refl

pub flags-row : (lists : OffsetLists) (bytes : List ℕ) → lists.flags ≡ None → (pushed_row lists (Some bytes)).flags ≡ None
flags-row lists bytes none = rw none refl

pub flags-first : (lists : OffsetLists) (n : ℕ) → lists.flags ≡ None → (first_slots lists n).flags ≡ None
unfolding first_slots
flags-first lists n none = rw none refl

pub flags-joined : (lists others : OffsetLists) → lists.flags ≡ None → others.flags ≡ None → (joined_lists lists others).flags ≡ None
unfolding joined_lists
flags-joined lists others none rest = rw (none, rest) refl

not_none : (n : ℕ) → 0 < n → (n == 0) ≡ false
not_none n some = grind (arith, nat_tests)

-- without flags, the last slot is valid
pub last_given : (lists : OffsetLists) → AreFullLists lists → lists.flags ≡ None → 0 < slot_count lists → last_row lists ≡ Some (slot_at (offset_slots lists) (slot_count lists - 1)).bytes
last_given lists full none some =
    let test = not_none (slot_count lists) some in
    let at : slot_count lists - 1 < slot_count lists = omega arith in
    let valid : (slot_at (offset_slots lists) (slot_count lists - 1)).valid ≡ true =
    valid_at lists (slot_count lists - 1) full.sound at ∙ ap (λ flags. is_valid_at flags (slot_count lists - 1)) none in
    rw (test, valid) refl

pub none_where_empty : {X : Type 0} (row : Option X) (f : X → List ℕ) (lists : OffsetLists) → AreFullLists lists → lists.flags ≡ None → option_map f row ≡ last_row lists → MatchOption row (slot_count lists ≡ 0) (λ _. 0 < slot_count lists)
none_where_empty None f lists full none e = elim (cases_lt 0 (slot_count lists)) [
  | inl some ↦ let given = last_given lists full none some in absurd (cc)
  | inr empty ↦ omega arith
]
none_where_empty (Some x) f lists full none e = elim (cases_lt 0 (slot_count lists)) [
  | inl some ↦ some
  | inr empty ↦ let zero : slot_count lists ≡ 0 = omega arith in let is = rw zero at e in absurd (cc)
]

pub none_where_ok : {X : Type 0} (result : Result (Option X) PolarsError) (f : X → List ℕ) (lists : OffsetLists) (Q : Type 0) → AreFullLists lists → lists.flags ≡ None → Answers result None (λ row. (option_map f row ≡ last_row lists) × Q) → IfOk result (λ row. MatchOption row (slot_count lists ≡ 0) (λ _. 0 < slot_count lists))
none_where_ok (Ok row) f lists Q full none given = none_where_empty row f lists full none given.1.0
none_where_ok (Err error) f lists Q full none given = tt

pub frozen_without : (lists : OffsetLists) → lists.flags ≡ None → frozen_lists lists ≡ lists
frozen_without lists none =
    ap (λ (flags : Option (List Bool)). offset_lists lists.offsets lists.values (frozen_flags flags)) none
    ∙ ap (offset_lists lists.offsets lists.values) (sym none)

-- what a value builder gives as an array
pub frozen_values : (lists frozen : OffsetLists) → lists.flags ≡ None → frozen ≡ frozen_lists lists → frozen ≡ lists
frozen_values lists frozen none is = is ∙ frozen_without lists none

pub ruleset values = (limit_none, flags-row, flags-first, flags-joined, frozen_without)

-- Table 3-7 says of bytes what std says: that they are the encoded characters of a text.
use Rattle.std.proofs.Common.{◌≡◌, ℕ, ◌<◌, ◌≤◌, ◌⊎◌, ◌↔◌, Bool, true, false, List, [], ◌∷◌, ◌++◌, length, take, drop, refl, sym, subst, inl, inr, arith}
use Rattle.std.specs.Prelude.{◌&&◌, nat_le, if◌then◌else◌, Some, None, IsTrue, slice_index}
use Rattle.std.specs.Str.{IsUtf8, IsCharBoundary}
use Rattle.std.proofs.lemmas.Bool.{cases_lt, and_parts}
use Rattle.std.proofs.lemmas.Bool.Decides.{nat_tests}
use Rattle.std.proofs.lemmas.Str.{IsUtf8-append, IsUtf8-take, IsUtf8-drop, IsCharBoundary-from_take}
use Rattle.simdutf8.specs.Steps.{IsContinuation, least_after, most_after, IsClosed, Step, first, second, later, StepsThen}
use Rattle.simdutf8.proofs.Chars.{StepsThen-IsUtf8, least_is, most_is}
use Rattle.column_base.specs.Utf8.{is_between, is_continuation_byte, following_ranges, is_well_formed_after, is_well_formed_utf8, IsWellFormedUtf8}

-- ---- the rows of the table

between_tells : (least most b : ℕ) → is_between least most b ≡ true → (least ≤ b) × (b ≤ most)
between_tells least most b e = grind (arith, nat_tests)

between_holds : (least most b : ℕ) → least ≤ b → b ≤ most → is_between least most b ≡ true
between_holds least most b l m = grind (arith, nat_tests)

both : (a b : Bool) → a ≡ true → b ≡ true → a && b ≡ true
both a b p q = rw (p, q) refl

-- the bytes after the second one
abbrev rest_of : ℕ → List (ℕ × ℕ)
rest_of z =
    if nat_le z 0xDF then []
    else if nat_le z 0xEF then (0x80, 0xBF) ∷ []
    else (0x80, 0xBF) ∷ (0x80, 0xBF) ∷ []

one_byte : (b : ℕ) → b < 0x80 → following_ranges b ≡ Some []
one_byte b h = grind (arith, nat_tests)

no_first_low : (b : ℕ) → 0x80 ≤ b → b < 0xC2 → following_ranges b ≡ None
no_first_low b l h = grind (arith, nat_tests)

no_first_high : (b : ℕ) → 0xF4 < b → following_ranges b ≡ None
no_first_high b h = grind (arith, nat_tests)

more_bytes : (b : ℕ) → 0xC2 ≤ b → b ≤ 0xF4 → following_ranges b ≡ Some ((least_after b, most_after b) ∷ rest_of b)
more_bytes b l h = grind (arith, nat_tests)

-- ---- the table and the rule on each byte and the three before it

abbrev Valid : ℕ → ℕ → ℕ → List ℕ → Type 0
Valid = StepsThen IsClosed

abbrev Same : List (ℕ × ℕ) → ℕ → ℕ → ℕ → List ℕ → Type 0
Same ranges x y z bs = (is_well_formed_after (Some ranges) bs ≡ true) ↔ Valid x y z bs

-- What is still open after the bytes x, y and z: nothing, all that follows a first byte, one byte, or two.
record Facts (bs : List ℕ) : Type 0 where
  closed : (x y z : ℕ) → IsClosed x y z → Same [] x y z bs
  opened : (x y z : ℕ) → x < 0xF0 → y < 0xE0 → 0xC2 ≤ z → z ≤ 0xF4 → Same ((least_after z, most_after z) ∷ rest_of z) x y z bs
  one : (x y z : ℕ) → IsContinuation z → ((x < 0xF0) × (0xE0 ≤ y) × (y < 0xF0)) ⊎ ((0xF0 ≤ x) × IsContinuation y) → Same ((0x80, 0xBF) ∷ []) x y z bs
  two : (x y z : ℕ) → IsContinuation z → 0xF0 ≤ y → Same ((0x80, 0xBF) ∷ (0x80, 0xBF) ∷ []) x y z bs

not_true : {P : Type 0} → false ≡ true → P
not_true e = absurd (cc)

facts-nil : Facts []
facts-nil = record {
  closed = λ x y z h. (λ e. h, λ v. refl);
  opened = λ x y z a b l h. (λ e. not_true e, λ v. absurd (omega arith));
  one = λ x y z c h. (λ e. not_true e, λ v. elim h [ inl k ↦ absurd (omega arith) | inr k ↦ absurd (omega arith) ]);
  two = λ x y z c h. (λ e. not_true e, λ v. absurd (omega arith));
}

-- no text has a byte that begins no sequence, where a first byte is due
dead : (x y z : ℕ) (bs : List ℕ) → x < 0xF0 → y < 0xE0 → 0xC0 ≤ z → (z < 0xC2) ⊎ (0xF4 < z) → Valid x y z bs → ⊥
dead x y z [] a b l bad v = omega arith
dead x y z (c ∷ bs) a b l bad v =
    elim v.0 [
      | first p q ↦ omega arith
      | second p q r ↦ elim bad [ inl k ↦ omega arith | inr k ↦ omega arith ]
      | later p q r ↦ elim p [ inl k ↦ omega arith | inr k ↦ omega arith ]
    ]

dead_low : (x y z c : ℕ) → IsClosed x y z → 0x80 ≤ c → c < 0xC0 → Step x y z c → ⊥
dead_low x y z c h l m step =
    elim step [
      | first p q ↦ elim q [ inl k ↦ omega arith | inr k ↦ omega arith ]
      | second p q r ↦ omega arith
      | later p q r ↦ elim p [ inl k ↦ omega arith | inr k ↦ omega arith ]
    ]

module _ (c : ℕ) (bs : List ℕ) (facts : Facts bs) where
  from_closed : (x y z : ℕ) → IsClosed x y z → Same [] x y z (c ∷ bs)
  from_closed x y z h = elim (cases_lt c 0x80) [
    | inl ascii ↦
        let next = facts.closed y z c (omega arith) in (
          λ e. (first h (inl ascii), next.0 (subst (λ r. is_well_formed_after r bs ≡ true) (one_byte c ascii) e)),
          λ v. subst (λ r. is_well_formed_after r bs ≡ true) (sym (one_byte c ascii)) (next.1 v.1),
        )
    | inr high ↦ elim (cases_lt c 0xC2) [
      | inl low ↦ (
        λ e. not_true (subst (λ r. is_well_formed_after r bs ≡ true) (no_first_low c high low) e),
        λ v. elim (cases_lt c 0xC0) [ inl k ↦ absurd (dead_low x y z c h high k v.0) | inr k ↦ absurd (dead y z c bs (omega arith) (omega arith) k (inl low) v.1) ],
      )
      | inr lead ↦ elim (cases_lt 0xF4 c) [
        | inl above ↦ (
          λ e. not_true (subst (λ r. is_well_formed_after r bs ≡ true) (no_first_high c above) e),
          λ v. absurd (dead y z c bs (omega arith) (omega arith) (omega arith) (inr above) v.1),
        )
        | inr below ↦
            let next = facts.opened y z c (omega arith) (omega arith) lead below in (
              λ e. (first h (inr (omega arith)), next.0 (subst (λ r. is_well_formed_after r bs ≡ true) (more_bytes c lead below) e)),
              λ v. subst (λ r. is_well_formed_after r bs ≡ true) (sym (more_bytes c lead below)) (next.1 v.1),
            )
      ]
    ]
  ]

  -- one byte of a range, and what follows
  by_range : (least most : ℕ) (ranges : List (ℕ × ℕ)) (x y z : ℕ)
      → ((least ≤ c) × (c ≤ most) → Step x y z c)
      → (Step x y z c → (least ≤ c) × (c ≤ most))
      → ((least ≤ c) × (c ≤ most) → Same ranges y z c bs)
      → Same ((least, most) ∷ ranges) x y z (c ∷ bs)
  by_range least most ranges x y z to from next = (
    λ e. let parts = and_parts (is_between least most c) (is_well_formed_after (Some ranges) bs) e in
        let bounds = between_tells least most c parts.0 in
        (to bounds, (next bounds).0 parts.1),
    λ v. let bounds = from v.0 in
        both (is_between least most c) (is_well_formed_after (Some ranges) bs) (between_holds least most c bounds.0 bounds.1) ((next bounds).1 v.1),
  )

  continues : (z : ℕ) → 0xC2 ≤ z → (least_after z ≤ c) × (c ≤ most_after z) → IsContinuation c
  continues z l h = omega (arith, least_is z, most_is z)

  after_opened : (x y z : ℕ) → x < 0xF0 → y < 0xE0 → 0xC2 ≤ z → z ≤ 0xF4 → IsContinuation c → Same (rest_of z) y z c bs
  after_opened x y z a b l h k = elim (cases_lt z 0xE0) [
    | inl two_bytes ↦
        let e : rest_of z ≡ [] = grind (arith, nat_tests) in
        subst (λ r. Same r y z c bs) (sym e) (facts.closed y z c (omega arith))
    | inr more ↦ elim (cases_lt z 0xF0) [
      | inl three_bytes ↦
          let e : rest_of z ≡ (0x80, 0xBF) ∷ [] = grind (arith, nat_tests) in
          subst (λ r. Same r y z c bs) (sym e) (facts.one y z c k (inl (omega arith)))
      | inr four_bytes ↦
          let e : rest_of z ≡ (0x80, 0xBF) ∷ (0x80, 0xBF) ∷ [] = grind (arith, nat_tests) in
          subst (λ r. Same r y z c bs) (sym e) (facts.two y z c k four_bytes)
    ]
  ]

  from_opened : (x y z : ℕ) → x < 0xF0 → y < 0xE0 → 0xC2 ≤ z → z ≤ 0xF4 → Same ((least_after z, most_after z) ∷ rest_of z) x y z (c ∷ bs)
  from_opened x y z a b l h =
      by_range (least_after z) (most_after z) (rest_of z) x y z
      (λ k. second (a, b) (l, h) k)
      (λ step. elim step [
        | first p q ↦ absurd (omega arith)
        | second p q r ↦ r
        | later p q r ↦ elim p [ inl k ↦ absurd (omega arith) | inr k ↦ absurd (omega arith) ]
      ])
      (λ k. after_opened x y z a b l h (continues z l k))

  from_one : (x y z : ℕ) → IsContinuation z → ((x < 0xF0) × (0xE0 ≤ y) × (y < 0xF0)) ⊎ ((0xF0 ≤ x) × IsContinuation y) → Same ((0x80, 0xBF) ∷ []) x y z (c ∷ bs)
  from_one x y z cont h =
      by_range 0x80 0xBF [] x y z
      (λ k. later (elim h [ inl j ↦ inr j.1 | inr j ↦ inl j.0 ]) cont (omega arith))
      (λ step. elim step [
        | first p q ↦ elim h [ inl j ↦ absurd (omega arith) | inr j ↦ absurd (omega arith) ]
        | second p q r ↦ absurd (omega arith)
        | later p q r ↦ (omega arith, omega arith)
      ])
      (λ k. facts.closed y z c (elim h [ inl j ↦ (omega arith, omega arith, omega arith) | inr j ↦ (omega arith, omega arith, omega arith) ]))

  from_two : (x y z : ℕ) → IsContinuation z → 0xF0 ≤ y → Same ((0x80, 0xBF) ∷ (0x80, 0xBF) ∷ []) x y z (c ∷ bs)
  from_two x y z cont h =
      by_range 0x80 0xBF ((0x80, 0xBF) ∷ []) x y z
      (λ k. later (inr (omega arith)) cont (omega arith))
      (λ step. elim step [
        | first p q ↦ absurd (omega arith)
        | second p q r ↦ absurd (omega arith)
        | later p q r ↦ (omega arith, omega arith)
      ])
      (λ k. facts.one y z c (omega arith) (inr (h, cont)))

facts_of : (bs : List ℕ) → Facts bs
facts_of [] = facts-nil
facts_of (c ∷ bs) =
    let facts = facts_of bs in
    record { closed = from_closed c bs facts; opened = from_opened c bs facts; one = from_one c bs facts; two = from_two c bs facts }

pub well_formed-IsUtf8 : (bs : List ℕ) → IsWellFormedUtf8 bs ↔ IsUtf8 bs
well_formed-IsUtf8 bs =
    let table = (facts_of bs).closed 0 0 0 (omega arith) in
    let steps = StepsThen-IsUtf8 bs in
    (λ e. steps.0 (table.0 e), λ u. table.1 (steps.1 u))

unless_true : (s : Bool) → (s ≡ true → ⊥) → false ≡ s
unless_true false h = refl
unless_true true h = absurd (h refl)

-- a test of std's text is the test by the table
pub test_is : (r : Bool) (bs : List ℕ) → (IsTrue r ↔ IsUtf8 bs) → r ≡ is_well_formed_utf8 bs
test_is true bs h = sym ((well_formed-IsUtf8 bs).1 (h.0 refl))
test_is false bs h = unless_true (is_well_formed_utf8 bs) (λ e. not_true (h.1 ((well_formed-IsUtf8 bs).0 e)))

-- ---- cuts

pub well_formed-append : (xs ys : List ℕ) → IsWellFormedUtf8 xs → IsWellFormedUtf8 ys → IsWellFormedUtf8 (xs ++ ys)
well_formed-append xs ys p q =
    (well_formed-IsUtf8 (xs ++ ys)).1 (IsUtf8-append xs ys ((well_formed-IsUtf8 xs).0 p) ((well_formed-IsUtf8 ys).0 q))

boundary_tells : (b : ℕ) → (128 ≤ b → 192 ≤ b) → is_continuation_byte b ≡ false
boundary_tells b h = grind (arith, nat_tests)

boundary_from : (b : ℕ) → is_continuation_byte b ≡ false → 128 ≤ b → 192 ≤ b
boundary_from b e l = grind (arith, nat_tests)

pub well_formed-cut : (bs : List ℕ) (p : ℕ) → IsWellFormedUtf8 bs → p < length bs → (IsWellFormedUtf8 (take p bs) × IsWellFormedUtf8 (drop p bs)) ↔ (is_continuation_byte (slice_index bs p) ≡ false)
well_formed-cut bs p whole within =
    let text = (well_formed-IsUtf8 bs).0 whole in (
      λ parts. boundary_tells (slice_index bs p) ((IsCharBoundary-from_take bs p text (omega arith) ((well_formed-IsUtf8 (take p bs)).0 parts.0)).1 within),
      λ e. let boundary : IsCharBoundary bs p = (omega arith, λ i. boundary_from (slice_index bs p) e) in
          ((well_formed-IsUtf8 (take p bs)).1 (IsUtf8-take bs p text boundary), (well_formed-IsUtf8 (drop p bs)).1 (IsUtf8-drop bs p text boundary)),
    )

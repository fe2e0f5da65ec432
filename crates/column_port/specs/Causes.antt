-- When a fault is told: this library's own.
use Rattle.std.specs.Prelude.{◌≡◌, ℕ, ◌+◌, ◌-◌, ◌^◌, ◌≤◌, min, Result, Ok, Err}

-- One more, where the count stands still at the last number of 64 bits.
abbrev pub one_more : ℕ → ℕ
one_more n = min (n + 1) (2 ^ 64 - 1)

-- The count went up, or stands at its last value.
abbrev pub Rose : ℕ → ℕ → Type 0
Rose before now = one_more before ≤ now

-- The count of faults after a call: one more where it failed, and else as it was.
abbrev pub counted : {T E : Type 0} → ℕ → Result T E → ℕ
counted faults (Ok x) = faults
counted faults (Err e) = one_more faults

-- The count of faults never falls, and counts exactly the calls that failed.
pub record HasCause {T E : Type 0} (before now : ℕ) (result : Result T E) : Type 0 where
  pub later : before ≤ now
  pub counts : now ≡ counted before result

-- The two ends of a run. This library's own.
use Rattle.std.specs.Prelude.{ℕ, List}
use Rattle.std.specs.declared.option.Option.{Option}

-- What the source told at entry and what it has left at the end, what the sink held at entry and what it holds at the
-- end; None where an end tells nothing.
pub record Ends : Type 0 where
  pub told : Option (List ℕ)
  pub left : Option (List ℕ)
  pub held : Option (List ℕ)
  pub holds : Option (List ℕ)

abbrev pub ends : Option (List ℕ) → Option (List ℕ) → Option (List ℕ) → Option (List ℕ) → Ends
ends told left held holds = record { told = told; left = left; held = held; holds = holds }

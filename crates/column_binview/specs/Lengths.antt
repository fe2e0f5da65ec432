-- Items that are pushed one after another of a list: this library's own.
use Rattle.std.specs.Prelude.{◌≡◌, ℕ, ◌≤◌, List, take, sum, slice_get, Some, None, Result, Ok, Err}
use Rattle.std.specs.List.{All}
use Rattle.column_base.specs.declared.errors.PolarsError.{PolarsError}
use Rattle.column_base.specs.Pushes.{Growth, grown, growth_fault, IsRefusal}

-- All items were pushed, or those before the one that was refused.
abbrev pub ExtendsByList : {L X : Type 0} → Growth L X → List X → L → L → Result (Unit {0}) PolarsError → Type 0
ExtendsByList growth items old new (Ok done) = (growth_fault growth old items ≡ None) × (new ≡ grown growth old items)
ExtendsByList {L} {X} growth items old new (Err error) =
    (k : ℕ) × (x : X) × (slice_get items k ≡ Some x) × IsRefusal error (growth.fault new x)
    × (growth_fault growth old (take k items) ≡ None) × (new ≡ grown growth old (take k items))

-- True statistics of lengths: none is less or more, and their sum.
pub record AreStatistics (lengths : List ℕ) (least_length greatest_length sum_length : ℕ) : Type 0 where
  pub least : All (λ n. least_length ≤ n) lengths
  pub greatest : All (λ n. n ≤ greatest_length) lengths
  pub total : sum_length ≡ sum lengths

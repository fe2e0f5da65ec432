-- Lists of slots that take items one after another: this library's own. It says of each item why it is refused and what
-- it adds, and of an iterator that the items which it gave were added, up to the first that was refused.
use Rattle.std.specs.Prelude.{◌≡◌, ◌⊎◌, List, [], ◌∷◌, map, Option, None, Some, Result, Ok, Err}
use Rattle.std.specs.List.{fold}
use Rattle.std.specs.Iterator.{YieldsThen, Drains}
use Rattle.column_base.specs.declared.errors.Cause.{Cause}
use Rattle.column_base.specs.declared.errors.PolarsError.{PolarsError}
use Rattle.column_base.specs.declared.errors.PolarsError.TheVariants.{NoMemory}
use Rattle.column_base.specs.Answers.{Answers, ◌or_else◌}
use Rattle.column_base.specs.declared.push.ExtendError.{ExtendError}
use Rattle.column_base.specs.declared.push.ExtendError.TheVariants.{Item, Polars}

-- How a list takes an item: why it refuses one, and the list with one more.
pub record Growth (L X : Type 0) : Type 0 where
  pub fault : L → X → Option Cause
  pub pushed : L → X → L

-- the list with further items
abbrev pub grown : {L X : Type 0} → Growth L X → L → List X → L
grown growth list items = fold growth.pushed list items

-- the first fault of items that are pushed one after another
abbrev pub growth_fault : {L X : Type 0} → Growth L X → L → List X → Option Cause
growth_fault growth list [] = None
growth_fault growth list (x ∷ xs) = growth.fault list x or_else growth_fault growth (growth.pushed list x) xs

-- the error is the fault, or that memory ran out
abbrev pub IsRefusal : PolarsError → Option Cause → Type 0
IsRefusal error fault = Answers {X = Unit {0}} (Err error) fault (λ done. ⊥)

-- Items of which a fact holds were pushed one after another, and none was refused.
abbrev pub GrowsBy : {T L X : Type 0} → Growth L X → (T → X) → (List T → Type 0) → L → L → Type 0
GrowsBy {T} growth shown given old new =
    (taken : List T) × given taken × (growth_fault growth old (map shown taken) ≡ None) × (new ≡ grown growth old (map shown taken))

-- All items of an iterator were pushed, or those before the one that was refused.
abbrev pub ExtendsBy : {S T L X : Type 0} → Growth L X → (T → X) → (S → Option T → S → Type 0) → S → L → L → Result (Unit {0}) PolarsError → Type 0
ExtendsBy growth shown steps items old new (Ok done) = GrowsBy growth shown (Drains steps items) old new
ExtendsBy {S} {T} growth shown steps items old new (Err error) =
    (x : T) × IsRefusal error (growth.fault new (shown x))
    × GrowsBy growth shown (λ taken. (t : S) × YieldsThen steps items taken (Some x) t) old new

-- The same of items that may be errors: all of them were good, or those before the one that was an error or was refused.
abbrev pub ExtendsByOk : {S T E L X : Type 0} → Growth L X → (T → X) → (S → Option (Result T E) → S → Type 0) → S → L → L → Result (Unit {0}) (ExtendError E) → Type 0
ExtendsByOk growth shown steps items old new (Ok done) = GrowsBy growth shown (λ taken. Drains steps items (map Ok taken)) old new
ExtendsByOk {S} growth shown steps items old new (Err (Item e)) =
    GrowsBy growth shown (λ taken. (t : S) × YieldsThen steps items (map Ok taken) (Some (Err e)) t) old new
ExtendsByOk {S} {T} growth shown steps items old new (Err (Polars error)) =
    (x : T) × IsRefusal error (growth.fault new (shown x))
    × GrowsBy growth shown (λ taken. (t : S) × YieldsThen steps items (map Ok taken) (Some (Ok x)) t) old new

-- A value is made of a list that items were pushed to: of all of them. Or it is not made, since one was refused or memory
-- ran out.
abbrev pub MadeBy : {S T L X M : Type 0} → Growth L X → (T → X) → (S → Option T → S → Type 0) → S → L → (M → L → Type 0) → Result M PolarsError → Type 0
MadeBy {L = L} growth shown steps items old P (Ok made) = (new : L) × ExtendsBy growth shown steps items old new (Ok tt) × P made new
MadeBy {L = L} growth shown steps items old P (Err error) = (error ≡ NoMemory) ⊎ ((new : L) × ExtendsBy growth shown steps items old new (Err error))

-- The same of items that may be errors.
abbrev pub MadeByOk : {S T E L X M : Type 0} → Growth L X → (T → X) → (S → Option (Result T E) → S → Type 0) → S → L → (M → L → Type 0) → Result M (ExtendError E) → Type 0
MadeByOk {L = L} growth shown steps items old P (Ok made) = (new : L) × ExtendsByOk growth shown steps items old new (Ok tt) × P made new
MadeByOk {L = L} growth shown steps items old P (Err error) = (error ≡ Polars NoMemory) ⊎ ((new : L) × ExtendsByOk growth shown steps items old new (Err error))

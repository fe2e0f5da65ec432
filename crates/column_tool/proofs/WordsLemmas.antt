-- The words of a command line.
use Rattle.std.proofs.Common.{◌≡◌, ℕ, List, [], ◌∷◌, codes, ap}
use Rattle.std.specs.Prelude.{String, string_bytes, ◌↔◌}
use Rattle.std.specs.declared.alloc.Global.{Global}
use Rattle.column_tool.specs.Runs.{IsAsked}

-- one word is asked for where it is `relayout`
pub only_word : (word : String Global) → (string_bytes word ≡ codes "relayout") ↔ IsAsked (word ∷ [])
only_word word = (λ (is : string_bytes word ≡ codes "relayout"). ap (λ (text : List ℕ). text ∷ []) is, λ (asked : IsAsked (word ∷ [])). cc)

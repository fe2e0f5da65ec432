-- What reading JSON says of the value that bytes are.
use Rattle.std.proofs.Common.{◌≡◌, ℕ, Bool, true, false, List, Option, Some, None, if◌then◌else◌, refl, ◌∙◌, ap}
use Rattle.std.specs.Str.{IsUtf8}
use Rattle.serde_json.specs.Data.{Data}
use Rattle.serde_json.specs.Read.{read}
use Rattle.column_base.specs.Utf8.{is_well_formed_utf8}
use Rattle.column_base.proofs.Utf8Lemmas.{well_formed-IsUtf8}
use Rattle.column_document.specs.Json.{json_of}

pub json_read : (bytes : List ℕ) (value : Data) → IsUtf8 bytes → read bytes ≡ Some value → json_of bytes ≡ Some value
json_read bytes value text is = ap (λ (test : Bool). if test then read bytes else None) ((well_formed-IsUtf8 bytes).1 text) ∙ is

refused_by : (test : Bool) (json : Option Data) → (test ≡ true → json ≡ None) → (if test then json else None) ≡ None
refused_by true json none = none refl
refused_by false json none = refl

pub json_refused : (bytes : List ℕ) → (IsUtf8 bytes → read bytes ≡ None) → json_of bytes ≡ None
json_refused bytes none = refused_by (is_well_formed_utf8 bytes) (read bytes) (λ (formed : is_well_formed_utf8 bytes ≡ true). none ((well_formed-IsUtf8 bytes).0 formed))

pub ruleset json_laws = (json_read, json_refused)

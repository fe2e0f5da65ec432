-- The steps of a document's plan: this library's own. A step is an array of its name and its arguments.
use Rattle.std.specs.Prelude.{ℕ, if◌then◌else◌, List, codes, Option, None, Some, option_map}
use Rattle.std.specs.Str.{bytes_eq}
use Rattle.serde_json.specs.Data.{Data, Items, no_items, item}
use Rattle.serde_json.specs.Find.{as_str, as_array}
use Rattle.column_relayout.specs.declared.kind.Kind.{Kind}
use Rattle.column_relayout.specs.declared.kind.Kind.TheVariants.{Fixed}
use Rattle.column_relayout.specs.declared.steps.Step.{Step}
use Rattle.column_relayout.specs.declared.steps.Step.TheVariants.{Slice, Left, Right, ToUtf8, ToBinary, Gc, Dedupe, Append, Rebuild}
use Rattle.column_document.specs.Values.{◌>>=◌, list_of, u64_of, row_of, kind_from}

-- a step without arguments
abbrev pub no_arguments : Step → Items → Option Step
no_arguments step no_items = Some step
no_arguments step arguments = None

-- a step of exactly one argument
abbrev pub one_argument : {T : Type 0} → (Data → Option T) → (T → Step) → Items → Option Step
one_argument of step (item a no_items) = option_map step (of a)
one_argument of step arguments = None

-- a step of exactly two numbers
abbrev pub two_numbers : (ℕ → ℕ → Step) → Items → Option Step
two_numbers step (item a (item b no_items)) = do
  first ← u64_of a
  second ← u64_of b
  Some (step first second)
two_numbers step arguments = None

-- a rebuild into a kind of this name: `fixed` has a width, and no other kind has
abbrev pub rebuild_into : Kind → Items → Option Step
rebuild_into (Fixed unread) arguments = one_argument u64_of (λ width. Rebuild (Fixed width)) arguments
rebuild_into kind arguments = no_arguments (Rebuild kind) arguments

-- the name of a kind, and its width
abbrev pub rebuild_from : Items → Option Step
rebuild_from no_items = None
rebuild_from (item name arguments) = do
  kind ← kind_from name
  rebuild_into kind arguments

-- a step by its name
abbrev pub step_named : List ℕ → Items → Option Step
step_named word arguments =
    if bytes_eq word (codes "slice") then two_numbers Slice arguments
    else if bytes_eq word (codes "left") then one_argument u64_of Left arguments
    else if bytes_eq word (codes "right") then one_argument u64_of Right arguments
    else if bytes_eq word (codes "to_utf8") then no_arguments ToUtf8 arguments
    else if bytes_eq word (codes "to_binary") then no_arguments ToBinary arguments
    else if bytes_eq word (codes "gc") then no_arguments Gc arguments
    else if bytes_eq word (codes "dedupe") then no_arguments Dedupe arguments
    else if bytes_eq word (codes "append") then one_argument (list_of row_of) Append arguments
    else if bytes_eq word (codes "rebuild") then rebuild_from arguments
    else None

-- a name, and the arguments after it
abbrev pub step_from : Items → Option Step
step_from no_items = None
step_from (item name arguments) = do
  word ← as_str name
  step_named word arguments

-- an array of these
abbrev pub step_of : Data → Option Step
step_of value = as_array value >>= step_from

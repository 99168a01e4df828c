-- The bodies of functions, where they have no fault.
use Rattle.std.specs.Prelude.{◌≡◌, ℕ, Some, List, take}
use Rattle.lrc_named_tree.specs.Tree.{Named, Expression}
use Rattle.lrc_named_names.specs.Names.{Declared, function, meaning_at}
use Rattle.lrc_named_faults.specs.Declarations.{IsClean, body_scope}

-- the body of each function has no fault, by what was declared before it
abbrev pub AreBodiesClean : List Declared → Type 0
AreBodiesClean table = (place : ℕ) (parameters : List Named) (body : Expression) → meaning_at table place ≡ Some (function parameters body)
    → IsClean (body_scope (take place table) parameters) body

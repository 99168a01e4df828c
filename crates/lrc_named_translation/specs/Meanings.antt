-- What a name without arguments is that is no parameter.
use Rattle.std.specs.Prelude.{◌≡◌, Option, Some, None}
use Rattle.lrc_named_names.specs.Names.{Meaning, constant, shared, lock, function}
use Rattle.lrc_named_translation.specs.declared.meanings.NameKind.{NameKind}
use Rattle.lrc_named_translation.specs.declared.meanings.NameKind.TheVariants.{Private, Constant, Shared}

abbrev pub IsShared : Option Meaning → Type 0
IsShared None = ⊥
IsShared (Some (constant n)) = ⊥
IsShared (Some (shared item)) = Unit {0}
IsShared (Some (lock item)) = ⊥
IsShared (Some (function parameters body)) = ⊥

abbrev pub IsKind : NameKind → Option Meaning → Type 0
IsKind Private meaning = meaning ≡ None
IsKind (Constant n) meaning = meaning ≡ Some (constant n)
IsKind Shared meaning = IsShared meaning

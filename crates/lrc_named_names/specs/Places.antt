-- The places of the declared names, by name.
use Rattle.std.specs.Prelude.{◌≡◌, ℕ, Bool, List}
use Rattle.std.specs.HashMap as hash
use Rattle.std.specs.HashMap.{HashMap}
use Rattle.std.specs.List.{position_from}
use Rattle.std.specs.Str.{bytes_eq}
use Rattle.std.specs.Borrow.{Bor}
use Rattle.lrc_named_names.specs.declared.names.Declared as code_declared

-- a declared name is this one
abbrev pub is_named : List ℕ → code_declared.Declared → Bool
is_named name declared = bytes_eq declared.name.now name

-- of each name that is declared the first place, and of each other name none
abbrev pub ArePlaces : {S : Type 0} → List code_declared.Declared → HashMap (Bor (List ℕ)) ℕ S → Type 0
ArePlaces declared places =
    (name : List ℕ) → hash.get_by (λ key. bytes_eq name key.now) places ≡ position_from (is_named name) 0 declared

-- The names of a trace.
use Rattle.std.specs.Prelude.{◌≡◌, ℕ, List, take}
use Rattle.lrc_races_lines.specs.Table.{names_of}
use Rattle.lrc_races_text.specs.Naming.{Numbers}
use Rattle.lrc_races_claims.specs.declared.known.KnownNames.{KnownNames}

abbrev pub known_names : KnownNames → List (List ℕ)
known_names names = take names.known (names_of names.table)

-- the name has no number
abbrev pub IsUnknown : List (List ℕ) → List ℕ → Type 0
IsUnknown names name = (number : ℕ) → ¬ Numbers names name number

-- it has this number, and no other
pub record IsOnlyNumber (names : List (List ℕ)) (name : List ℕ) (number : ℕ) : Type 0 where
  pub is : Numbers names name number
  pub only : (other : ℕ) → Numbers names name other → other ≡ number

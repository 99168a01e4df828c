-- The claims of a report: each is a word, a blank, and what it claims.
use Rattle.std.specs.Prelude.{◌≢◌, ℕ, ◌<◌, ◌≤◌, List, ◌∷◌, ◌++◌, All, codes, length}
use Rattle.lrc_text.specs.Digits.{IsNumber}
use Rattle.lrc_races_lines.specs.Line.{bar, longest_name, IsName}
use Rattle.lrc_races_score.specs.declared.claim.Claim.{Claim}
use Rattle.lrc_races_score.specs.declared.claim.Claim.TheVariants.{Event, Pair, Locations, Variable, First}

-- what is claimed: that the access on a line races with an earlier one, that those on two lines race, that some at two locations
-- do, that some of a variable do, and on which line stands the first of a variable that races with an earlier one
pub data Statement : Type 0 where
  event : ℕ → Statement
  pair : ℕ → ℕ → Statement
  locations : List ℕ → List ℕ → Statement
  variable : List ℕ → Statement
  first : List ℕ → ℕ → Statement

abbrev pub statement_of : Claim → Statement
statement_of (Event line) = event line
statement_of (Pair line other) = pair line other
statement_of (Locations place other) = locations place.now other.now
statement_of (Variable name) = variable name.now
statement_of (First name line) = first name.now line

abbrev pub blank : ℕ
blank = 32

-- digits write the number of a line: leading zeros are allowed, and it is not 0
pub record IsLineNumber (digits : List ℕ) (line : ℕ) : Type 0 where
  pub says : IsNumber digits 18446744073709551615 line
  pub some : 1 ≤ line

-- a location that is claimed: not empty, and any bytes but bars
abbrev pub IsPlace : List ℕ → Type 0
IsPlace place = (0 < length place) × (length place ≤ longest_name) × All (λ (b : ℕ). b ≢ bar) place

-- The bytes spell the claim.
pub data SpellsClaim : Statement → List ℕ → Type 0 where
  spells_event : {digits : List ℕ} {line : ℕ} → IsLineNumber digits line → SpellsClaim (event line) (codes "event" ++ blank ∷ digits)
  spells_pair : {digits others : List ℕ} {line other : ℕ} → IsLineNumber digits line → IsLineNumber others other
      → SpellsClaim (pair line other) (codes "pair" ++ blank ∷ (digits ++ blank ∷ others))
  spells_locations : {place other : List ℕ} → IsPlace place → IsPlace other
      → SpellsClaim (locations place other) (codes "locations" ++ blank ∷ (place ++ bar ∷ other))
  spells_variable : {name : List ℕ} → IsName name → SpellsClaim (variable name) (codes "variable" ++ blank ∷ name)
  spells_first : {name digits : List ℕ} {line : ℕ} → IsName name → IsLineNumber digits line
      → SpellsClaim (first name line) (codes "first" ++ blank ∷ (name ++ blank ∷ digits))

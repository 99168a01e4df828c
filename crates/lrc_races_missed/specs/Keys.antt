-- The claims of a report, by the numbers of their variables and places.
use Rattle.std.specs.Prelude.{◌≡◌, ◌↔◌, ℕ, ◌<◌, List, Option, Some, Contains, length, slice_get}
use Rattle.lrc_races_text.specs.Naming.{Numbers}
use Rattle.lrc_races_score.specs.Claims.{Statement, event, pair, locations, variable, first, statement_of}
use Rattle.lrc_races_score.specs.declared.report.LinedClaim.{LinedClaim}
use Rattle.lrc_races_claims.specs.declared.places.TwoPlaces.{TwoPlaces}
use Rattle.lrc_races_missed.specs.declared.key.Key.{Key}
use Rattle.lrc_races_missed.specs.declared.key.Key.TheVariants.{Event, Pair, Places, Variable, First}

-- these are the numbers of two places
pub record AreTwoNumbers (places : List (List ℕ)) (place other : List ℕ) (both : TwoPlaces) : Type 0 where
  pub earlier : Numbers places place both.earlier
  pub later : Numbers places other both.later

-- The key is that of the claim, in a trace whose variables and places have these names.
pub data IsKeyOf (variables places : List (List ℕ)) : Statement → Key → Type 0 where
  event_key : {line : ℕ} → IsKeyOf variables places (event line) (Event line)
  pair_key : {line other : ℕ} → IsKeyOf variables places (pair line other) (Pair line other)
  places_key : {place other : List ℕ} {both : TwoPlaces} → AreTwoNumbers places place other both
      → IsKeyOf variables places (locations place other) (Places both.earlier both.later)
  variable_key : {name : List ℕ} {number : ℕ} → Numbers variables name number → IsKeyOf variables places (variable name) (Variable number)
  first_key : {name : List ℕ} {number line : ℕ} → Numbers variables name number → IsKeyOf variables places (first name line) (First number line)

-- this is its key, or it has none
abbrev pub IsKeyFound : List (List ℕ) → List (List ℕ) → Statement → Option Key → Type 0
IsKeyFound variables places claim found = (key : Key) → IsKeyOf variables places claim key ↔ (found ≡ Some key)

-- one of the first n claims has the key
pub record SomeHasKey (variables places : List (List ℕ)) (claims : List LinedClaim) (n : ℕ) (key : Key) : Type 0 where
  pub k : ℕ
  pub claim : LinedClaim
  pub before : k < n
  pub at : slice_get claims k ≡ Some claim
  pub is : IsKeyOf variables places (statement_of claim.claim) key

-- the keys are exactly those of the claims
pub record AreKeys (variables places : List (List ℕ)) (claims : List LinedClaim) (keys : List Key) : Type 0 where
  pub exact : (key : Key) → Contains keys key ↔ SomeHasKey variables places claims (length claims) key

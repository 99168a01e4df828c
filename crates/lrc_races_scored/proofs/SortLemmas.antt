-- Which sort a claim is of, and whether a sort is scored.
use Rattle.std.proofs.Common.{◌≡◌, ℕ, List, [], ◌∷◌, length, refl}
use Rattle.std.specs.Prelude.{nat_lt}
use Rattle.lrc_races_score.specs.Claims.{event, pair, locations, variable, first}
use Rattle.lrc_races_score.specs.declared.report.LinedClaim.{LinedClaim}
use Rattle.lrc_races_scored.specs.contracts.sort.SortPartialEq.TheImpl.{eq-value}
use Rattle.lrc_races_scored.specs.declared.sort.Sort.{Sort}
use Rattle.lrc_races_scored.specs.declared.sort.Sort.TheVariants.{Events, Pairs, Locations, Variables, Firsts}
use Rattle.lrc_races_scored.specs.Sorts.{claims_of, is_of, is_scored}

pub has_event : (sort : Sort) (line : ℕ) → eq-value.it sort Events ≡ is_of sort (event line)
has_event Events line = refl
has_event _ line = refl

pub has_pair : (sort : Sort) (line other : ℕ) → eq-value.it sort Pairs ≡ is_of sort (pair line other)
has_pair Pairs line other = refl
has_pair _ line other = refl

pub has_locations : (sort : Sort) (place other : List ℕ) → eq-value.it sort Locations ≡ is_of sort (locations place other)
has_locations Locations place other = refl
has_locations _ place other = refl

pub has_variable : (sort : Sort) (name : List ℕ) → eq-value.it sort Variables ≡ is_of sort (variable name)
has_variable Variables name = refl
has_variable _ name = refl

pub has_first : (sort : Sort) (name : List ℕ) (line : ℕ) → eq-value.it sort Firsts ≡ is_of sort (first name line)
has_first Firsts name line = refl
has_first _ name line = refl

-- of a report without claims events are scored
pub scored_none : (sort : Sort) (claims : List LinedClaim) → length claims ≡ 0 → eq-value.it sort Events ≡ is_scored sort claims
scored_none Events [] e = refl
scored_none Pairs [] e = refl
scored_none Locations [] e = refl
scored_none Variables [] e = refl
scored_none Firsts [] e = refl
scored_none sort (claim ∷ claims) e = let never : ⊥ = cc in absurd never

pub scored_some : (sort : Sort) (claims : List LinedClaim) → (length claims ≡ 0 → ⊥) → nat_lt 0 (claims_of sort claims) ≡ is_scored sort claims
scored_some sort [] some = absurd (some refl)
scored_some Events (claim ∷ claims) some = refl
scored_some Pairs (claim ∷ claims) some = refl
scored_some Locations (claim ∷ claims) some = refl
scored_some Variables (claim ∷ claims) some = refl
scored_some Firsts (claim ∷ claims) some = refl

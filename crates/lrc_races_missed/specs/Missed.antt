-- What the claims of a report missed.
use Rattle.std.specs.Prelude.{◌≡◌, ℕ, ◌<◌, ◌↔◌, List, AllPairs, Contains, length}
use Rattle.lrc_races_trace.specs.declared.event.Event.{Event}
use Rattle.lrc_races_trace.specs.declared.event.Pair.{Pair}
use Rattle.lrc_races_trace.specs.Trace.{At, Accesses}
use Rattle.lrc_races_trace.specs.Races.{ComesFirst, IsTold}
use Rattle.lrc_races_sure.specs.Sure.{IsSureTold}
use Rattle.lrc_races_text.specs.declared.asked.Sought.{Sought}
use Rattle.lrc_races_text.specs.declared.asked.Sought.TheVariants.{AllRaces, SureRaces}
use Rattle.lrc_races_text.specs.Naming.{Naming}
use Rattle.lrc_races_text.specs.Spelled.{name_at, side_place}
use Rattle.lrc_races_locations.specs.Located.{IsShown, ComesFirst as ShowsFirst}
use Rattle.lrc_races_witness.specs.Relations.{IsAccessOn}
use Rattle.lrc_races_score.specs.Claims.{Statement, event, pair, locations, variable, first, statement_of}
use Rattle.lrc_races_score.specs.declared.report.LinedClaim.{LinedClaim}
use Rattle.lrc_races_claims.specs.Racing.{RacesBefore, IsFirstRacing}
use Rattle.lrc_races_missed.specs.declared.pairs.TwoLines.{TwoLines}
use Rattle.lrc_races_missed.specs.declared.variables.Racing.{Racing}

-- the report has the claim
pub record Claims (claims : List LinedClaim) (claim : Statement) : Type 0 where
  pub lined : LinedClaim
  pub at : Contains claims lined
  pub is : statement_of lined.claim ≡ claim

-- The lines of the accesses that race with earlier ones and that no claim `event` has, ascending.
pub record AreMissedEvents (sought : Sought) (events : List Event) (claims : List LinedClaim) (lines : List ℕ) : Type 0 where
  pub ascending : AllPairs (λ one other. one < other) lines
  pub exact : (line : ℕ) → Contains lines line
      ↔ ((j : ℕ) × (v : ℕ) × (b : Event) × IsAccessOn events line j v b × RacesBefore sought events j × ¬ Claims claims (event line))

-- the pair is told of the races
abbrev pub IsToldOf : Sought → List Event → Pair → Type 0
IsToldOf AllRaces events told = IsTold events told
IsToldOf SureRaces events told = IsSureTold events told

-- no claim `pair` has the pair, in either order
abbrev pub IsUnclaimed : List LinedClaim → Pair → Type 0
IsUnclaimed claims told = ¬ Claims claims (pair told.earlier.event.line told.later.event.line)
    × ¬ Claims claims (pair told.later.event.line told.earlier.event.line)

-- The pairs that are told, in order, but those that are claimed.
pub record AreMissedPairs (sought : Sought) (events : List Event) (claims : List LinedClaim) (pairs : List Pair) : Type 0 where
  pub in_order : AllPairs ComesFirst pairs
  pub exact : (told : Pair) → Contains pairs told ↔ (IsToldOf sought events told × IsUnclaimed claims told)

-- the lines of a pair
abbrev pub lines_of : Pair → TwoLines
lines_of both = record { earlier = both.earlier.event.line; later = both.later.event.line }

-- both have the same two places, in either order
pub data HaveSamePlaces (naming : Naming) (one other : Pair) : Type 0 where
  straight : side_place naming one.earlier.event.location ≡ side_place naming other.earlier.event.location
      → side_place naming one.later.event.location ≡ side_place naming other.later.event.location → HaveSamePlaces naming one other
  crossed : side_place naming one.earlier.event.location ≡ side_place naming other.later.event.location
      → side_place naming one.later.event.location ≡ side_place naming other.earlier.event.location → HaveSamePlaces naming one other

-- Of the pairs of locations that race, each two places once, by the first that has them, in order, but those that a claim `locations`
-- has, in either order.
pub record AreMissedLocations (sought : Sought) (naming : Naming) (events : List Event) (claims : List LinedClaim) (pairs : List Pair) : Type 0 where
  pub in_order : AllPairs ShowsFirst pairs
  pub exact : (shown : Pair) → Contains pairs shown
      ↔ (IsShown sought events shown
      × ((other : Pair) → IsShown sought events other → ShowsFirst other shown → ¬ HaveSamePlaces naming shown other)
      × ¬ Claims claims (locations (side_place naming shown.earlier.event.location) (side_place naming shown.later.event.location))
      × ¬ Claims claims (locations (side_place naming shown.later.event.location) (side_place naming shown.earlier.event.location)))

-- the line is that of the first access of the variable that races with an earlier one
pub record IsRacing (sought : Sought) (events : List Event) (racing : Racing) : Type 0 where
  pub position : ℕ
  pub is : Event
  pub first : IsFirstRacing sought events racing.variable position is
  pub on : is.line ≡ racing.line

-- all variables that race, by those lines
pub record AreAllRacing (sought : Sought) (events : List Event) (all : List Racing) : Type 0 where
  pub ascending : AllPairs (λ one other. one.line < other.line) all
  pub exact : (racing : Racing) → Contains all racing ↔ IsRacing sought events racing

-- the variables that are accessed have names
abbrev pub AreNumbered : Naming → List Event → Type 0
AreNumbered naming events = (k v : ℕ) (event : Event) → At events k event → Accesses event v → v < length naming.variables

-- The variables that race and that no claim `variable` has, by those lines; likewise of claims `first`.
pub record AreMissedVariables (sought : Sought) (naming : Naming) (events : List Event) (claims : List LinedClaim) (missed : List Racing) : Type 0 where
  pub ascending : AllPairs (λ one other. one.line < other.line) missed
  pub exact : (racing : Racing) → Contains missed racing
      ↔ (IsRacing sought events racing × ¬ Claims claims (variable (name_at naming.variables racing.variable)))

pub record AreMissedFirsts (sought : Sought) (naming : Naming) (events : List Event) (claims : List LinedClaim) (missed : List Racing) : Type 0 where
  pub ascending : AllPairs (λ one other. one.line < other.line) missed
  pub exact : (racing : Racing) → Contains missed racing
      ↔ (IsRacing sought events racing × ¬ Claims claims (first (name_at naming.variables racing.variable) racing.line))

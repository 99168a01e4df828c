-- The pairs of locations that race, each shown by one pair of accesses.
use Rattle.std.specs.Prelude.{◌≡◌, ◌<◌, ◌≤◌, ◌⊎◌, ◌↔◌, true, List, AllPairs, Contains}
use Rattle.lrc_races_trace.specs.declared.event.Event.{Event}
use Rattle.lrc_races_trace.specs.declared.event.Pair.{Pair}
use Rattle.lrc_races_trace.specs.Trace.{At}
use Rattle.lrc_races_trace.specs.Groups.{are_alike}
use Rattle.lrc_races_text.specs.declared.asked.Sought.{Sought}
use Rattle.lrc_races_locations.specs.Rivals.{Rivals}

-- the accesses of the pair race
pub record AreRacing (sought : Sought) (events : List Event) (pair : Pair) : Type 0 where
  pub first : At events pair.earlier.position pair.earlier.event
  pub second : At events pair.later.position pair.later.event
  pub races : Rivals sought events pair.earlier.position pair.later.position

-- The pair shows its locations and kinds: of all pairs with these that race, none has an earlier later access, and of those with
-- the same later access none has a later earlier one.
pub record IsShown (sought : Sought) (events : List Event) (pair : Pair) : Type 0 where
  pub racing : AreRacing sought events pair
  pub first : (other : Pair) → AreRacing sought events other → are_alike pair other ≡ true
      → (pair.later.position < other.later.position)
      ⊎ ((pair.later.position ≡ other.later.position) × (other.earlier.position ≤ pair.earlier.position))

-- what has the earlier later access comes first, and of those with the same one what has the earlier earlier access
abbrev pub ComesFirst : Pair → Pair → Type 0
ComesFirst p q = (p.later.position < q.later.position)
    ⊎ ((p.later.position ≡ q.later.position) × (p.earlier.position < q.earlier.position))

-- the pairs are exactly those that show locations and kinds; and those of all pairs that race are shown
pub record AreShown (sought : Sought) (events : List Event) (pairs : List Pair) : Type 0 where
  pub in_order : AllPairs ComesFirst pairs
  pub exact : (pair : Pair) → Contains pairs pair ↔ IsShown sought events pair
  pub all : (other : Pair) → AreRacing sought events other → (pair : Pair) × Contains pairs pair × (are_alike pair other ≡ true)

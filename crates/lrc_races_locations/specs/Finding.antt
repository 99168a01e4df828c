-- What is found at an access: the pairs with the last accesses that race with it, whose locations and kinds are new.
use Rattle.std.specs.Prelude.{◌≡◌, ◌≢◌, ℕ, ◌<◌, ◌≤◌, ◌⊎◌, ◌↔◌, true, List, [], ◌∷◌, ◌++◌, AllPairs, Contains, slice_get, slice_index, Some}
use Rattle.lrc_races_trace.specs.declared.event.Event.{Event}
use Rattle.lrc_races_trace.specs.declared.event.Pair.{Pair}
use Rattle.lrc_races_trace.specs.declared.event.Placed.{Placed}
use Rattle.lrc_races_trace.specs.Groups.{is_write}
use Rattle.lrc_races_detector.specs.declared.groups.Sides.{Sides}
use Rattle.lrc_races_detector.specs.Grouping.{sides_of}
use Rattle.lrc_races_text.specs.declared.asked.Sought.{Sought}
use Rattle.lrc_races_locations.specs.declared.locator.Locator.{Locator}
use Rattle.lrc_races_locations.specs.Located.{AreRacing, IsShown, ComesFirst}
use Rattle.lrc_races_locations.specs.Spots.{AreRows}

-- the earlier access is of another thread, one of both writes, and so much is not known
pub record IsRival (known : List ℕ) (later earlier : Placed) : Type 0 where
  pub apart : earlier.event.thread ≢ later.event.thread
  pub writes : (is_write earlier.event.operation ≡ true) ⊎ (is_write later.event.operation ≡ true)
  pub unknown : slice_index known earlier.event.thread ≤ earlier.position

abbrev pub pair_of : Placed → Placed → Pair
pair_of earlier later = record { earlier = earlier; later = later }

-- A pair whose locations and kinds are met is not found, and a new one is put before those that are found.
pub data IsOffered (pair : Pair) (before after : List Sides) (old new : List Pair) : Type 0 where
  met : Contains before (sides_of pair) → after ≡ before → new ≡ old → IsOffered pair before after old new
  fresh : ¬ Contains before (sides_of pair) → after ≡ before ++ sides_of pair ∷ [] → new ≡ pair ∷ old → IsOffered pair before after old new

-- The pair of an access with an earlier one is offered where they race.
pub data IsConsidered (known : List ℕ) (later earlier : Placed) (before after : List Sides) (old new : List Pair) : Type 0 where
  passed : ¬ IsRival known later earlier → after ≡ before → new ≡ old → IsConsidered known later earlier before after old new
  offered : IsRival known later earlier → IsOffered (pair_of earlier later) before after old new → IsConsidered known later earlier before after old new

-- Of the accesses of a row from this place on those that race are noted, and of those with new locations and kinds the last is
-- found.
pub record AreFoundFrom (place : ℕ) (row : List Placed) (known : List ℕ) (later : Placed) (before after : List Sides) (found : List Pair) : Type 0 where
  pub sides : (s : Sides) → Contains after s ↔ (Contains before s ⊎ ((p : Pair) × Contains found p × (sides_of p ≡ s)))
  pub sound : (p : Pair) → Contains found p → (k : ℕ) × (place ≤ k) × (slice_get row k ≡ Some p.earlier) × (p.later ≡ later)
      × IsRival known later p.earlier × ¬ Contains before (sides_of p)
  pub greatest : (p : Pair) → Contains found p → (k : ℕ) (spot : Placed) → place ≤ k → slice_get row k ≡ Some spot → IsRival known later spot
      → sides_of (pair_of spot later) ≡ sides_of p → spot.position ≤ p.earlier.position
  pub complete : (k : ℕ) (spot : Placed) → place ≤ k → slice_get row k ≡ Some spot → IsRival known later spot
      → Contains after (sides_of (pair_of spot later))
  pub in_order : AllPairs (λ p q. p.earlier.position < q.earlier.position) found

-- the locations and kinds of all pairs before this position that race are shown
pub record HasShown (sought : Sought) (events : List Event) (n : ℕ) (locator : Locator) : Type 0 where
  pub rows : AreRows events n locator.spots.items
  pub sides : (s : Sides) → Contains locator.sides.keys s ↔ ((p : Pair) × Contains locator.pairs.items p × (sides_of p ≡ s))
  pub in_order : AllPairs ComesFirst locator.pairs.items
  pub sound : (pair : Pair) → Contains locator.pairs.items pair → IsShown sought events pair × (pair.later.position < n)
  pub all : (other : Pair) → AreRacing sought events other → other.later.position < n
      → (pair : Pair) × Contains locator.pairs.items pair × (sides_of pair ≡ sides_of other)

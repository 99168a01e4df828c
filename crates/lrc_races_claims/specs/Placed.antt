-- The places of accesses, and which of them race.
use Rattle.std.specs.Prelude.{◌≡◌, ◌↔◌, ℕ, ◌<◌, List, Some, Contains, length, slice_get}
use Rattle.lrc_races_trace.specs.declared.event.Event.{Event}
use Rattle.lrc_races_trace.specs.declared.event.Pair.{Pair}
use Rattle.lrc_races_trace.specs.Trace.{At}
use Rattle.lrc_races_text.specs.declared.asked.Sought.{Sought}
use Rattle.lrc_races_text.specs.Naming.{Naming, Numbers}
use Rattle.lrc_races_text.specs.Spelled.{side_place}
use Rattle.lrc_races_locations.specs.Located.{AreRacing, AreShown}
use Rattle.lrc_races_claims.specs.declared.places.Places.{Places}
use Rattle.lrc_races_claims.specs.declared.places.TwoPlaces.{TwoPlaces}
use Rattle.lrc_races_claims.specs.Known.{known_names}
use Rattle.lrc_races_claims.specs.Truth.{AccessesAt}

-- some access before position n is at the place
pub record SomeIsBefore (naming : Naming) (events : List Event) (n : ℕ) (place : List ℕ) : Type 0 where
  pub position : ℕ
  pub is : Event
  pub before : position < n
  pub at : At events position is
  pub accesses : AccessesAt naming place is

-- the names are those of the places of accesses before position n
pub record ArePlaceNames (naming : Naming) (events : List Event) (n : ℕ) (names : List (List ℕ)) : Type 0 where
  pub exact : (place : List ℕ) → Contains names place ↔ SomeIsBefore naming events n place

-- these are the numbers of the places of the pair
pub record AreNumbersOf (naming : Naming) (names : List (List ℕ)) (pair : Pair) (places : TwoPlaces) : Type 0 where
  pub earlier : Numbers names (side_place naming pair.earlier.event.location) places.earlier
  pub later : Numbers names (side_place naming pair.later.event.location) places.later

-- one of the first so many pairs has these places
pub record SomeShownAt (naming : Naming) (names : List (List ℕ)) (shown : List Pair) (n : ℕ) (both : TwoPlaces) : Type 0 where
  pub k : ℕ
  pub pair : Pair
  pub before : k < n
  pub at : slice_get shown k ≡ Some pair
  pub numbers : AreNumbersOf naming names pair both

-- some pair of accesses that race has these places
pub record SomeRaceAt (sought : Sought) (naming : Naming) (events : List Event) (names : List (List ℕ)) (places : TwoPlaces) : Type 0 where
  pub pair : Pair
  pub racing : AreRacing sought events pair
  pub numbers : AreNumbersOf naming names pair places

pub record ArePlaces (sought : Sought) (naming : Naming) (events : List Event) (places : Places) : Type 0 where
  pub names : ArePlaceNames naming events (length events) (known_names places.names)
  pub pairs : (both : TwoPlaces) → Contains places.pairs.keys both ↔ SomeRaceAt sought naming events (known_names places.names) both
  pub shown : AreShown sought events places.shown.items

-- they are the same, with names that were looked for and are none of them
pub record HasSamePlaces (before after : Places) : Type 0 where
  pub names : known_names after.names ≡ known_names before.names
  pub pairs : after.pairs ≡ before.pairs
  pub shown : after.shown ≡ before.shown

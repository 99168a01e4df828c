-- The places of accesses depend on the names of locations alone.
use Rattle.std.proofs.Common.{◌≡◌, ℕ, List, length, refl, sym, subst, ap, ◌∙◌}
use Rattle.std.specs.Prelude.{◌↔◌, Contains, Option, Some, None}
use Rattle.lrc_races_trace.specs.declared.event.Event.{Event}
use Rattle.lrc_races_trace.specs.declared.event.Pair.{Pair}
use Rattle.lrc_races_locations.specs.Located.{AreShown}
use Rattle.lrc_races_text.specs.declared.asked.Sought.{Sought}
use Rattle.lrc_races_text.specs.Naming.{Naming, Numbers}
use Rattle.lrc_races_text.specs.Spelled.{name_at, side_place}
use Rattle.lrc_races_claims.specs.Known.{known_names}
use Rattle.lrc_races_claims.specs.Placed.{SomeIsBefore, ArePlaceNames, SomeRaceAt, ArePlaces, HasSamePlaces}
use Rattle.lrc_races_claims.specs.declared.places.Places.{Places}
use Rattle.lrc_races_claims.specs.declared.places.TwoPlaces.{TwoPlaces}

pub same_side : (naming other : Naming) → naming.locations ≡ other.locations → (location : Option ℕ) → side_place naming location ≡ side_place other location
same_side naming other e (Some location) = ap (λ (names : List (List ℕ)). name_at names location) e
same_side naming other e None = refl

some_before : (naming other : Naming) (events : List Event) (n : ℕ) (place : List ℕ) → naming.locations ≡ other.locations
    → SomeIsBefore naming events n place → SomeIsBefore other events n place
some_before naming other events n place e some = record {
  position = some.position;
  is = some.is;
  before = some.before;
  at = some.at;
  accesses = record {
    number = some.accesses.number;
    accesses = some.accesses.accesses;
    at = sym (same_side naming other e some.is.location) ∙ some.accesses.at;
  };
}

some_race : (sought : Sought) (naming other : Naming) (events : List Event) (names : List (List ℕ)) (both : TwoPlaces) → naming.locations ≡ other.locations
    → SomeRaceAt sought naming events names both → SomeRaceAt sought other events names both
some_race sought naming other events names both e some = record {
  pair = some.pair;
  racing = some.racing;
  numbers = record {
    earlier = subst (λ (name : List ℕ). Numbers names name both.earlier) (same_side naming other e some.pair.earlier.event.location) some.numbers.earlier;
    later = subst (λ (name : List ℕ). Numbers names name both.later) (same_side naming other e some.pair.later.event.location) some.numbers.later;
  };
}

pub same_places : (sought : Sought) (naming other : Naming) (events : List Event) (places : Places) → naming.locations ≡ other.locations
    → ArePlaces sought naming events places → ArePlaces sought other events places
same_places sought naming other events places e are = record {
  names = record {
    exact = λ place. (
      λ has. some_before naming other events (length events) place e ((are.names.exact place).0 has),
      λ some. (are.names.exact place).1 (some_before other naming events (length events) place (sym e) some),
    );
  };
  pairs = λ both. (
    λ has. some_race sought naming other events (known_names places.names) both e ((are.pairs both).0 has),
    λ some. (are.pairs both).1 (some_race sought other naming events (known_names places.names) both (sym e) some),
  );
  shown = are.shown;
}

same_keys : {before after : Places} → HasSamePlaces before after → after.pairs.keys ≡ before.pairs.keys
same_keys same = rw same.pairs refl

same_shown : {before after : Places} → HasSamePlaces before after → after.shown.items ≡ before.shown.items
same_shown same = rw same.shown refl

pub kept_places : (sought : Sought) (naming : Naming) (events : List Event) (places after : Places) → HasSamePlaces places after
    → ArePlaces sought naming events places → ArePlaces sought naming events after
kept_places sought naming events places after same are = record {
  names = subst (λ (names : List (List ℕ)). ArePlaceNames naming events (length events) names) (sym same.names) are.names;
  pairs = λ both. subst (λ (names : List (List ℕ)). Contains after.pairs.keys both ↔ SomeRaceAt sought naming events names both) (sym same.names)
      (subst (λ (keys : List TwoPlaces). Contains keys both ↔ SomeRaceAt sought naming events (known_names places.names) both) (sym (same_keys same))
      (are.pairs both));
  shown = subst (λ (shown : List Pair). AreShown sought events shown) (sym (same_shown same)) are.shown;
}

-- The places of the pairs so far are there.
use Rattle.std.proofs.Common.{◌≡◌}
use Rattle.std.specs.Prelude.{◌↔◌, Contains}
use Rattle.lrc_races_text.specs.Tables.{naming_of}
use Rattle.lrc_races_claims.specs.Known.{known_names}
use Rattle.lrc_races_claims.specs.declared.places.TwoPlaces.{TwoPlaces}
use Rattle.lrc_races_claims.specs.Placed.{SomeShownAt}
use Rattle.lrc_races_claims.proofs.places.places_of.Given as goal

abbrev pub invariant-loop-pair : goal.invariant-loop-pair
invariant-loop-pair l = record {
  same : known_names l.places.names ≡ known_names l.initial.places.names;
  pairs : (both : TwoPlaces) → Contains l.places.pairs.keys both
      ↔ SomeShownAt (naming_of l.names) (known_names l.initial.places.names) l.pair-items l.pair-index both;
}

-- The keys of the claims so far are there.
use Rattle.std.proofs.Common.{◌≡◌}
use Rattle.std.specs.Prelude.{◌↔◌, Contains}
use Rattle.lrc_races_claims.specs.Known.{known_names}
use Rattle.lrc_races_missed.specs.Keys.{SomeHasKey}
use Rattle.lrc_races_missed.specs.declared.key.Key.{Key}
use Rattle.lrc_races_missed.proofs.keys.keys_of.Given as goal

abbrev pub invariant-loop-lined : goal.invariant-loop-lined
invariant-loop-lined l = record {
  variables : known_names l.variables ≡ known_names l.initial.variables;
  places : known_names l.places ≡ known_names l.initial.places;
  keys : (key : Key) → Contains l.keys.keys key
      ↔ SomeHasKey (known_names l.initial.variables) (known_names l.initial.places) l.claims l.lined-index key;
}

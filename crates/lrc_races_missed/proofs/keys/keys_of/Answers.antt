-- One claim more, and all.
use Rattle.std.proofs.Common.{◌≡◌, length, subst, ◌∙◌, arith}
use Rattle.std.specs.Prelude.{◌↔◌, Contains}
use Rattle.lrc_races_claims.specs.Known.{known_names}
use Rattle.lrc_races_missed.specs.Keys.{SomeHasKey}
use Rattle.lrc_races_missed.specs.declared.key.Key.{Key}
use Rattle.lrc_races_missed.proofs.KeyLemmas.{keys_noted}
use Rattle.lrc_races_missed.proofs.keys.keys_of.Goals as goal

pub loop-lined-preserved : goal.loop-lined-preserved
loop-lined-preserved c =
    let variables = known_names c.args.variables.now in
    let places = known_names c.args.places.now in
    let n = c.loop-lined.lined-index in
    record {
      variables = c.in_ok-key.ensures.variables ∙ c.loop-lined.invariant.variables;
      places = c.in_ok-key.ensures.places ∙ c.loop-lined.invariant.places;
      keys = keys_noted variables places (known_names c.loop-lined.variables) (known_names c.loop-lined.places) c.loop-lined.invariant.variables
          c.loop-lined.invariant.places c.args.claims.now n _ c.loop-lined-test.true c.in_ok-key.key c.in_ok-key.ensures.key c.loop-lined.keys.keys
          c.add_some.new.keys.keys c.in_ok-add_some.ensures c.loop-lined.invariant.keys;
    }

pub returns-clause-keys : goal.returns-clause-keys
returns-clause-keys c =
    let done : c.loop-lined.lined-index ≡ length c.args.claims.now = omega arith in
    record {
      exact = subst (λ n. (key : Key) → Contains c.loop-lined.keys.keys key
          ↔ SomeHasKey (known_names c.args.variables.now) (known_names c.args.places.now) c.args.claims.now n key) done c.loop-lined.invariant.keys;
    }

-- By the names of the places, which stay the same.
use Rattle.std.proofs.Common.{List, ℕ, length, refl, subst, sym, ◌∙◌}
use Rattle.std.proofs.lemmas.Result.{IfOk-weaker, on_ok_weaker}
use Rattle.lrc_races_trace.specs.declared.event.Pair.{Pair}
use Rattle.lrc_races_locations.specs.Located.{AreShown}
use Rattle.lrc_races_claims.specs.Known.{known_names}
use Rattle.lrc_races_claims.specs.Placed.{ArePlaceNames}
use Rattle.lrc_races_missed.specs.Keys.{AreKeys}
use Rattle.lrc_races_scored.proofs.missed.located.Goals as goal

pub returns-clause-missed : goal.returns-clause-missed
returns-clause-missed c =
    IfOk-weaker c.missed_locations.result _ _ (λ missed says sought naming events same are.
    says sought naming events c.args.claims.now (known_names c.args.variables.now) same
    (subst (λ (names : List (List ℕ)). ArePlaceNames naming events (length events) names) (sym c.in_ok-keys.ensures.places) are.names)
    (subst (λ (pairs : List Pair). AreShown sought events pairs) (sym c.as_slice.ensures.value) are.shown)
    (subst (λ (names : List (List ℕ)). AreKeys (known_names c.args.variables.now) names c.args.claims.now c.in_ok-keys.keys.keys)
    (sym c.in_ok-keys.ensures.places) c.in_ok-keys.ensures.keys)) c.missed_locations.ensures.missed

pub returns-clause-variables : goal.returns-clause-variables
returns-clause-variables c = on_ok_weaker c.missed_locations.result (λ kept. c.in_ok-keys.ensures.variables) c.missed_locations.ensures.kept

pub returns-clause-places : goal.returns-clause-places
returns-clause-places c =
    on_ok_weaker c.missed_locations.result (λ kept. record { names = kept ∙ c.in_ok-keys.ensures.places; pairs = refl; shown = refl })
    c.missed_locations.ensures.kept

-- Locations are scored or not; the places are known.
use Rattle.std.proofs.lemmas.Result.{IfOk-weaker}
use Rattle.lrc_races_scored.proofs.MissedLemmas.{located_stays, scored_so, unscored}
use Rattle.lrc_races_scored.proofs.missed.locations_part.Goals as goal

pub returns-then-not-is_scored-clause-missed : goal.returns-then-not-is_scored-clause-missed
returns-then-not-is_scored-clause-missed c = λ sought naming last is.
    unscored _ _ c.is_scored.result _ c.is_scored.ensures c.if-not-is_scored.true c.new.ensures.items

pub returns-clause-missed : goal.returns-clause-missed
returns-clause-missed c =
    IfOk-weaker c.located.result _ _ (λ missed says sought naming last is.
    let known = c.in_ok-learn_places.ensures.stays sought naming last is in
    scored_so _ _ c.is_scored.result c.is_scored.ensures c.if-not-is_scored.false
    (says sought naming c.args.events.now known.locations (known.places c.in-Some.places c.in-Some.is))) c.located.ensures.missed

pub returns-clause-stays : goal.returns-clause-stays
returns-clause-stays c =
    located_stays c.located.result c.args.events.now c.args.judge.now c.learn_places.new.self c.in_ok-learn_places.ensures.stays c.in-Some.places
    c.located.new.places c.located.new.variables c.in-Some.is c.located.ensures.variables c.located.ensures.places

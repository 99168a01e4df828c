-- By the facts.
use Rattle.std.proofs.lemmas.Result.{IfOk-weaker}
use Rattle.lrc_races_scored.proofs.MissedLemmas.{on_any}
use Rattle.lrc_races_scored.proofs.missed.racing_all.Goals as goal

pub returns-clause-racing : goal.returns-clause-racing
returns-clause-racing c =
    IfOk-weaker c.racing_of.result _ _ (λ all says sought naming last by_line is.
    let known = c.in_ok-learn_facts.ensures.stays sought naming last is in
    says sought by_line (known.facts c.in-Some.facts c.in-Some.is)) c.racing_of.ensures

pub returns-clause-stays : goal.returns-clause-stays
returns-clause-stays c = on_any c.racing_of.result c.in_ok-learn_facts.ensures.stays

-- By what is known of the events.
use Rattle.std.proofs.lemmas.Result.{IfOk-weaker}
use Rattle.lrc_races_claims.proofs.Saying.{on_ok}
use Rattle.lrc_races_claims.proofs.JudgeLemmas.{with_variables}
use Rattle.lrc_races_claims.proofs.judge.Judge.first.Goals as goal

pub returns-clause-found : goal.returns-clause-found
returns-clause-found c =
    IfOk-weaker c.first_racing.result _ _ (λ found says sought naming last is.
    let known = c.in_ok-learn_facts.ensures.stays sought naming last is in
    says sought naming c.args.events.now known.variables (known.facts c.in-Some.facts c.in-Some.is)) c.first_racing.ensures.found

pub returns-clause-stays : goal.returns-clause-stays
returns-clause-stays c =
    on_ok c.first_racing.result c.first_racing.ensures.kept (λ same sought naming last is.
    with_variables sought naming c.args.events.now last c.learn_facts.new.self (c.in_ok-learn_facts.ensures.stays sought naming last is)
    c.first_racing.new.variables same)

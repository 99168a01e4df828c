-- By the places of the trace.
use Rattle.std.proofs.lemmas.Result.{IfOk-weaker}
use Rattle.lrc_races_claims.proofs.Saying.{on_ok}
use Rattle.lrc_races_claims.proofs.JudgeLemmas.{with_same_places}
use Rattle.lrc_races_claims.proofs.judge.Judge.locations.Goals as goal

pub returns-clause-judged : goal.returns-clause-judged
returns-clause-judged c =
    IfOk-weaker c.judge_locations.result _ _ (λ verdict says sought naming last is.
    let known = c.in_ok-learn_places.ensures.stays sought naming last is in
    says sought naming c.args.events.now last (known.places c.in-Some.places c.in-Some.is)) c.judge_locations.ensures.judged

pub returns-clause-stays : goal.returns-clause-stays
returns-clause-stays c =
    on_ok c.judge_locations.result c.judge_locations.ensures.kept (λ same sought naming last is.
    with_same_places sought naming c.args.events.now last c.learn_places.new.self (c.in_ok-learn_places.ensures.stays sought naming last is)
    c.in-Some.places c.judge_locations.new.places c.in-Some.is same)

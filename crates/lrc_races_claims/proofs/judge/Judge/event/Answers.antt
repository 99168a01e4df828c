-- By what is known of the events.
use Rattle.lrc_races_claims.proofs.JudgeLemmas.{event_judged}
use Rattle.lrc_races_claims.proofs.judge.Judge.event.Goals as goal

pub judge_event-requires-clause-facts : goal.judge_event-requires-clause-facts
judge_event-requires-clause-facts c =
    let judge = c.requires.judge in
    let known = c.in_ok-learn_facts.ensures.stays judge.sought judge.naming judge.last judge.is in
    (judge.sought, known.facts c.in-Some.facts c.in-Some.is)

pub returns-clause-judged : goal.returns-clause-judged
returns-clause-judged c = λ sought naming last is.
    let known = c.in_ok-learn_facts.ensures.stays sought naming last is in
    event_judged sought naming c.args.events.now last c.learn_facts.new.self known c.in-Some.facts c.in-Some.is c.args.line c.judge_event.result
    c.judge_event.ensures

-- Each sort is judged by what it claims.
use Rattle.std.proofs.Common.{sym, subst}
use Rattle.lrc_races_score.specs.Claims.{statement_of}
use Rattle.lrc_races_score.specs.declared.claim.Claim.{Claim}
use Rattle.lrc_races_claims.specs.Truth.{IsJudged}
use Rattle.lrc_races_claims.proofs.JudgeLemmas.{first_judged, of_claim}
use Rattle.lrc_races_claims.proofs.judge.Judge.claim.Goals as goal

pub returns-in-Event-clause-judged : goal.returns-in-Event-clause-judged
returns-in-Event-clause-judged c = of_claim c.args.events.now c.args.self.now c.args.claim _ c.event.result c.in-Event.is c.event.ensures.judged

pub returns-in-Pair-clause-judged : goal.returns-in-Pair-clause-judged
returns-in-Pair-clause-judged c = of_claim c.args.events.now c.args.self.now c.args.claim _ c.pair.result c.in-Pair.is c.pair.ensures.judged

pub returns-in-Locations-clause-judged : goal.returns-in-Locations-clause-judged
returns-in-Locations-clause-judged c =
    of_claim c.args.events.now c.args.self.now c.args.claim _ c.locations.result c.in-Locations.is c.locations.ensures.judged

pub returns-in_ok-found-in-Variable-clause-judged : goal.returns-in_ok-found-in-Variable-clause-judged
returns-in_ok-found-in-Variable-clause-judged c = λ sought naming last is.
    subst (λ (claim : Claim). IsJudged sought naming c.args.events.now last (statement_of claim) c.judge_variable.result) (sym c.in-Variable.is)
    (c.judge_variable.ensures sought naming c.args.events.now last c.in-Variable.name.now (c.in_ok-found-in-Variable.ensures.found sought naming last is))

pub returns-in_ok-found-in-First-clause-judged : goal.returns-in_ok-found-in-First-clause-judged
returns-in_ok-found-in-First-clause-judged c = λ sought naming last is.
    subst (λ (claim : Claim). IsJudged sought naming c.args.events.now last (statement_of claim) c.judge_first.result) (sym c.in-First.is)
    (first_judged sought naming c.args.events.now last c.first-in-First.new.self (c.in_ok-found-in-First.ensures.stays sought naming last is) c.in-First.name.now
    c.in-First.line c.in_ok-found-in-First.found c.judge_first.result (c.in_ok-found-in-First.ensures.found sought naming last is) c.judge_first.ensures)

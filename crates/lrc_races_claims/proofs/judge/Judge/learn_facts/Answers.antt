-- They are found out.
use Rattle.lrc_races_claims.proofs.JudgeLemmas.{with_facts}
use Rattle.lrc_races_claims.proofs.judge.Judge.learn_facts.Goals as goal

pub returns-clause-stays : goal.returns-clause-stays
returns-clause-stays c = λ sought naming last is.
    with_facts sought naming c.args.events.now last c.args.self.now is c.in_ok-new.field-0 c.in_ok-new.ensures

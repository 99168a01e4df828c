-- They are found out.
use Rattle.lrc_races_claims.proofs.JudgeLemmas.{with_places}
use Rattle.lrc_races_claims.proofs.judge.Judge.learn_places.Goals as goal

pub returns-clause-stays : goal.returns-clause-stays
returns-clause-stays c = λ sought naming last is.
    with_places sought naming c.args.events.now last c.args.self.now is c.in_ok-places_of.field-0 c.in_ok-places_of.ensures

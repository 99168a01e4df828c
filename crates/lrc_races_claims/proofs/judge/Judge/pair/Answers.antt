-- By what separates them.
use Rattle.std.proofs.lemmas.Result.{IfOk-weaker}
use Rattle.lrc_races_claims.proofs.Saying.{on_ok}
use Rattle.lrc_races_claims.proofs.JudgeLemmas.{pair_judged, with_asker}
use Rattle.lrc_races_claims.proofs.judge.Judge.pair.Goals as goal

pub judge_pair-requires-clause-asking : goal.judge_pair-requires-clause-asking
judge_pair-requires-clause-asking c = c.requires.judge.is.asking

pub returns-clause-judged : goal.returns-clause-judged
returns-clause-judged c =
    IfOk-weaker c.judge_pair.result _ _ (λ verdict says sought naming last is.
    pair_judged sought naming c.args.events.now last c.args.self.now is c.args.line c.args.other verdict says) c.judge_pair.ensures.judged

pub returns-clause-stays : goal.returns-clause-stays
returns-clause-stays c =
    on_ok c.judge_pair.result c.judge_pair.ensures.asking (λ asking sought naming last is.
    with_asker sought naming c.args.events.now last c.args.self.now is c.judge_pair.new.asker c.judge_pair.ensures.sought asking)

-- Pairs are scored or not.
use Rattle.std.proofs.lemmas.Result.{IfOk-weaker}
use Rattle.lrc_races_scored.proofs.MissedLemmas.{scored_so, unscored}
use Rattle.lrc_races_scored.proofs.missed.pairs_part.Goals as goal

pub returns-then-not-is_scored : goal.returns-then-not-is_scored
returns-then-not-is_scored c = λ variables places are. unscored _ _ c.is_scored.result _ c.is_scored.ensures c.if-not-is_scored.true c.new.ensures.items

pub returns : goal.returns
returns c =
    IfOk-weaker c.missed_pairs.result _ _ (λ lines says variables places are.
    scored_so _ _ c.is_scored.result c.is_scored.ensures c.if-not-is_scored.false (says c.args.claims.now variables places are)) c.missed_pairs.ensures

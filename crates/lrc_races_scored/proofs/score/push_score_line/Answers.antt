-- A sort that is scored has a line.
use Rattle.lrc_races_scored.proofs.ScoreLemmas.{scored_line, unscored_line}
use Rattle.lrc_races_scored.proofs.score.push_score_line.Goals as goal

pub returns-then-not-is_scored : goal.returns-then-not-is_scored
returns-then-not-is_scored c =
    unscored_line c.args.claims.now c.args.verdicts.now c.args.sort c.args.missed c.is_scored.result c.args.text.now.items c.is_scored.ensures
    c.if-not-is_scored.true

pub returns : goal.returns
returns c =
    scored_line c.push_tally.result c.args.claims.now c.args.verdicts.now c.args.sort c.args.missed c.is_scored.result c.tally_of.result
    c.args.text.now.items c.push_tally.new.text.items c.is_scored.ensures c.if-not-is_scored.false c.tally_of.ensures.claims c.tally_of.ensures.right
    c.tally_of.ensures.wrong c.push_tally.ensures

-- What is claimed, or why nothing is.
use Rattle.std.specs.Prelude.{codes}
use Rattle.lrc_races_score.proofs.Spelling.{spelled_by, no_word, is_true, is_false}
use Rattle.lrc_races_score.proofs.reading.worded_claim.Goals as goal

pub returns-then-is : goal.returns-then-is
returns-then-is c =
    spelled_by c.args.word.now (codes "event") c.args.rest.now (is_true c.is.result _ c.is.ensures c.if-is.true) c.event_claim.result c.event_claim.ensures

pub returns-then-is-2 : goal.returns-then-is-2
returns-then-is-2 c =
    spelled_by c.args.word.now (codes "pair") c.args.rest.now (is_true c.is-2.result _ c.is-2.ensures c.if-is-2.true) c.pair_claim.result c.pair_claim.ensures

pub returns-then-is-3 : goal.returns-then-is-3
returns-then-is-3 c =
    spelled_by c.args.word.now (codes "locations") c.args.rest.now (is_true c.is-3.result _ c.is-3.ensures c.if-is-3.true) c.locations_claim.result c.locations_claim.ensures

pub returns-then-is-4 : goal.returns-then-is-4
returns-then-is-4 c =
    spelled_by c.args.word.now (codes "variable") c.args.rest.now (is_true c.is-4.result _ c.is-4.ensures c.if-is-4.true) c.variable_claim.result c.variable_claim.ensures

pub returns-then-is-5 : goal.returns-then-is-5
returns-then-is-5 c =
    spelled_by c.args.word.now (codes "first") c.args.rest.now (is_true c.is-5.result _ c.is-5.ensures c.if-is-5.true) c.first_claim.result c.first_claim.ensures

pub returns : goal.returns
returns c = no_word c.args.word.now c.args.rest.now c.requires (is_false c.is.result _ c.is.ensures c.if-is.false)
    (is_false c.is-2.result _ c.is-2.ensures c.if-is-2.false) (is_false c.is-3.result _ c.is-3.ensures c.if-is-3.false)
    (is_false c.is-4.result _ c.is-4.ensures c.if-is-4.false) (is_false c.is-5.result _ c.is-5.ensures c.if-is-5.false)

-- One claim more is counted, or not.
use Rattle.std.proofs.Common.{ap, ◌∙◌, arith}
use Rattle.std.proofs.lemmas.List.{take_all}
use Rattle.std.proofs.lemmas.Option.{slice_get-get_or}
use Rattle.lrc_races_scored.specs.Sorts.{claims_of, is_claim_of}
use Rattle.lrc_races_scored.proofs.Adding.{count_more, one_le, one_more}
use Rattle.lrc_races_scored.proofs.tally.count.Goals as goal

pub loop-lined-preserved : goal.loop-lined-preserved
loop-lined-preserved c =
    let claims = c.args.claims.now in
    let i = c.loop-lined.lined-index in
    let le = one_le c.from-count.result c.has.result c.from-count.ensures in
    record {
      counted = one_more c.loop-lined.count c.from-count.result _ _ c.has.result _ c.loop-lined.invariant.counted c.from-count.ensures c.has.ensures
          (count_more (is_claim_of c.args.sort) claims i _ (slice_get-get_or claims i _ c.loop-lined-test.true));
      few = omega arith;
    }

pub returns : goal.returns
returns c =
    c.loop-lined.invariant.counted ∙ ap (claims_of c.args.sort) (take_all c.loop-lined.lined-index c.args.claims.now c.loop-lined-test.false)

-- One claim more is counted, or not.
use Rattle.std.proofs.Common.{◌<◌, length, ◌∙◌, arith}
use Rattle.std.proofs.lemmas.Option.{slice_get-get_or}
use Rattle.lrc_races_scored.specs.Sorts.{is_true_of}
use Rattle.lrc_races_scored.proofs.Adding.{one_le, one_more, zip_count, zip_count_all}
use Rattle.lrc_races_scored.proofs.tally.count_right.Goals as goal

pub loop-place-preserved : goal.loop-place-preserved
loop-place-preserved c =
    let claims = c.args.claims.now in
    let verdicts = c.args.verdicts.now in
    let i = c.loop-place.place in
    let within : i < length verdicts = omega arith in
    let le = one_le c.from-count.result c.is_right_of.result c.from-count.ensures in
    record {
      counted = one_more c.loop-place.count c.from-count.result _ _ c.is_right_of.result _ c.loop-place.invariant.counted c.from-count.ensures c.is_right_of.ensures
          (zip_count claims verdicts c.requires (is_true_of c.args.sort) i _ _ (slice_get-get_or claims i _ c.loop-place-test.true)
          (slice_get-get_or verdicts i _ within));
      few = omega arith;
    }

pub returns : goal.returns
returns c =
    c.loop-place.invariant.counted
    ∙ zip_count_all c.args.claims.now c.args.verdicts.now c.requires (is_true_of c.args.sort) c.loop-place.place c.loop-place-test.false

use Rattle.std.proofs.Common.{◌<◌, length, arith}
use Rattle.std.proofs.lemmas.List.{get_or_default}
use Rattle.lrc_lazy_known.proofs.Made.{among_more, among_done}
use Rattle.lrc_lazy_known.proofs.word.joined.Goals as goal

pub loop-place-preserved : goal.loop-place-preserved
loop-place-preserved c =
    let more = c.args.more.now in
    let within : c.loop-place.place < length more = omega (arith, c.loop-place-test.true, c.loop-place.auto.place-end) in
    record {
      values = among_more c.args.own.now c.loop-place.all.items c.with_value.new.values.items more c.loop-place.place _ within
          (get_or_default more c.loop-place.place _ 0 within) c.loop-place.invariant.values c.in_ok-with_value.ensures.values;
      rising = λ up. c.in_ok-with_value.ensures.rising (c.loop-place.invariant.rising up);
    }

pub returns-clause-values : goal.returns-clause-values
returns-clause-values c =
    among_done c.args.own.now c.loop-place.all.items c.args.more.now c.loop-place.place
    (omega (arith, c.loop-place-test.false, c.loop-place.auto.place-end))
    (omega (arith, c.loop-place-test.false, c.loop-place.auto.place-end)) c.loop-place.invariant.values

use Rattle.std.proofs.Common.{arith, take}
use Rattle.lrc_bytes_turns.proofs.Telling.{lines_more, sees_more}
use Rattle.lrc_bytes_turns.proofs.section.bytes_part.Goals as goal

pub loop-place-preserved : goal.loop-place-preserved
loop-place-preserved c =
    let turns = c.args.turns.now in
    let k = c.loop-place.place in
    let turn = c.index-turns-place.result in
    let old = c.loop-place.invariant in
    record {
      text = lines_more turns k turn c.loop-place-test.true c.index-turns-place.is c.args.section.from c.args.section.to c.args.section.events.now
          c.loop-place.text.items c.tell.new.text.items old.text (c.in_ok-tell.ensures.text (take k turns) old.sees);
      sees = sees_more turns k turn c.loop-place-test.true c.index-turns-place.is c.tell.new.seen (c.in_ok-tell.ensures.sees (take k turns) old.sees);
      few = omega (arith, c.tell.ensures.acts, old.few);
    }

use Rattle.lrc_race.proofs.Found.{lanes-more}
use Rattle.lrc_race.proofs.detector.lanes_of.Goals as goal

pub loop-trace-preserved : goal.loop-trace-preserved
loop-trace-preserved c =
    rw c.in_ok-push.ensures.items
    (lanes-more c.args.traces.now c.loop-trace.lanes.items c.loop-trace.trace-index c.trace-item.result _ c.loop-trace-test.true
    c.trace-item.is c.loop-trace.invariant c.in_ok-lane.ensures)

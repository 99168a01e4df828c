use Rattle.lrc_replay.proofs.Replayed.{deliver_so, repeat_so, run_so}
use Rattle.lrc_replay.proofs.replay.Replay.make.Goals as goal

pub returns-in-Run : goal.returns-in-Run
returns-in-Run c world next is goes =
    run_so world next c.args.event c.in-Run.node c.args.self.now c.run.new.self c.run.result is c.in-Run.is goes c.run.ensures.nodes c.run.ensures.flight

pub returns-in-Deliver : goal.returns-in-Deliver
returns-in-Deliver c world next is goes =
    deliver_so world next c.args.event c.in-Deliver.place c.args.self.now c.deliver.new.self c.deliver.result is c.in-Deliver.is goes
    c.deliver.ensures.nodes c.deliver.ensures.flight

pub returns-in-Repeat : goal.returns-in-Repeat
returns-in-Repeat c world next is goes =
    repeat_so world next c.args.event c.in-Repeat.place c.args.self.now c.take.new.self c.take.result is c.in-Repeat.is goes
    c.take.ensures.nodes c.take.ensures.flight

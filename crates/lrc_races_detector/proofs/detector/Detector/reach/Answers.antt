-- What the event gets is received, what is known may be levelled, and its own position is marked.
use Rattle.std.proofs.Common.{◌+◌, subst}
use Rattle.lrc_races_detector.specs.Clocks.{IsLevelled, IsMarked}
use Rattle.lrc_races_detector.proofs.Handing.{received}
use Rattle.lrc_races_detector.proofs.detector.Detector.reach.Goals as goal

pub returns-clause-reached : goal.returns-clause-reached
returns-clause-reached c = λ events n here old.
    let self = c.args.self.now in
    let between = c.receive.new.threads in
    let levelled = c.level.new.threads in
    let (chunk, level) = c.in_ok-level.ensures in
    received events n self.threads self.locks self.barriers old.threads old.locks old.barriers c.args.event here
    between levelled c.mark.new.self
    c.in_ok-receive.ensures chunk
    (subst (λ m. IsLevelled between levelled c.args.event.thread chunk m) old.position level)
    (subst (λ m. IsMarked levelled c.mark.new.self c.args.event.thread (m + 1)) old.position c.in_ok-mark.ensures)

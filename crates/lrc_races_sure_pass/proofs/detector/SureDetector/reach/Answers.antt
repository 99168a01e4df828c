-- What the event reads is learned, and its own position is marked.
use Rattle.std.proofs.Common.{◌+◌, subst}
use Rattle.lrc_races_detector.specs.Clocks.{IsMarked}
use Rattle.lrc_races_sure_pass.proofs.Handing.{reached}
use Rattle.lrc_races_sure_pass.proofs.detector.SureDetector.reach.Goals as goal

pub returns-clause-reached : goal.returns-clause-reached
returns-clause-reached c = λ events n here position writes asked.
    let self = c.args.self.now in
    reached events n self.threads self.writes c.args.event here writes asked c.learn.new.threads c.mark.new.self
    c.in_ok-learn.ensures
    (subst (λ m. IsMarked c.learn.new.threads c.mark.new.self c.args.event.thread (m + 1)) position c.in_ok-mark.ensures)

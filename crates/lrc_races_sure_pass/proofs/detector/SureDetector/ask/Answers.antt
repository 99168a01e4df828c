-- What the event gets is received, and what is known may be levelled.
use Rattle.std.proofs.Common.{subst}
use Rattle.lrc_races_detector.specs.Clocks.{IsLevelled}
use Rattle.lrc_races_sure_pass.proofs.Handing.{asked}
use Rattle.lrc_races_sure_pass.proofs.detector.SureDetector.ask.Goals as goal

pub returns-clause-asked : goal.returns-clause-asked
returns-clause-asked c = λ events n here old.
    let self = c.args.self.now in
    let between = c.receive.new.threads in
    let after = c.level.new.threads in
    let (chunk, level) = c.in_ok-level.ensures in
    asked events n self.threads self.locks self.barriers old.threads old.locks old.barriers c.args.event here between
    after
    c.in_ok-receive.ensures chunk
    (subst (λ m. IsLevelled between after c.args.event.thread chunk m) old.position level)

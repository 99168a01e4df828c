-- The thread of the event waits where it arrives, and goes on where it departs.
use Rattle.lrc_races_detector.proofs.Waiting.{waits_kept, waits_arrived, waits_departed}
use Rattle.lrc_races_detector.proofs.waits.Waits.take.Goals as goal

pub returns-in_ok-set-in-Arrive : goal.returns-in_ok-set-in-Arrive
returns-in_ok-set-in-Arrive c = λ events n here fine old.
    waits_arrived events n c.args.event here fine c.in-Arrive.barrier c.in-Arrive.is c.args.self.now c.set.new.self c.in_ok-set-in-Arrive.ensures old

pub returns-in_ok-set-in-Depart : goal.returns-in_ok-set-in-Depart
returns-in_ok-set-in-Depart c = λ events n here fine old.
    waits_departed events n c.args.event here fine c.in-Depart._barrier c.in-Depart.is c.args.self.now c.set-in-Depart.new.self
    c.in_ok-set-in-Depart.ensures old

pub returns-in_default : goal.returns-in_default
returns-in_default c = λ events n here fine old.
    waits_kept events n c.args.event here c.args.self.now c.in_default.not-Arrive c.in_default.not-Depart old

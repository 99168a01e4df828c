-- What is kept of the last writes, one event further.
use Rattle.lrc_races_sure_pass.proofs.Writing.{writes_kept, writes_given}
use Rattle.lrc_races_detector.specs.Vectors.{entries}
use Rattle.lrc_races_sure_pass.proofs.detector.give_write.Goals as goal

pub returns-in_ok-set-in-Write : goal.returns-in_ok-set-in-Write
returns-in_ok-set-in-Write c = λ events n here g old.
    writes_given events n c.args.event here c.in-Write.variable c.in-Write.is c.args.writes.now c.set.new.self (entries c.args.known) g c.in_ok-set-in-Write.ensures old

pub returns-in_default : goal.returns-in_default
returns-in_default c = λ events n here g old. writes_kept events n c.args.event here c.args.writes.now c.in_default.not-Write old

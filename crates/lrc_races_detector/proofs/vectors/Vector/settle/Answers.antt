-- All other entries stand among the others.
use Rattle.std.proofs.lemmas.Result.{on_ok_weaker}
use Rattle.lrc_races_detector.specs.Vectors.{rest}
use Rattle.lrc_races_detector.proofs.Entries.{settled_other, settled_own}
use Rattle.lrc_races_detector.proofs.vectors.Vector.settle.Goals as goal

pub returns-then-entry-thread : goal.returns-then-entry-thread
returns-then-entry-thread c =
    let self = c.args.self.now in
    settled_own self.apart c.in-Some.entry (rest self) c.args.thread c.in-Some.is c.if-entry-thread.true

pub returns-else-entry-thread : goal.returns-else-entry-thread
returns-else-entry-thread c =
    let self = c.args.self.now in
    on_ok_weaker c.note.result (settled_other self.apart c.in-Some.entry (rest self) (rest c.note.new.self) c.args.thread c.in-Some.is)
    c.note.ensures.rest

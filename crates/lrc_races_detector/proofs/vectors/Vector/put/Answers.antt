-- The thread's entry stands apart alone.
use Rattle.lrc_races_detector.specs.Vectors.{held, rest}
use Rattle.lrc_races_detector.proofs.Entries.{put_apart}
use Rattle.lrc_races_detector.proofs.vectors.Vector.put.Goals as goal

pub returns : goal.returns
returns c =
    put_apart c.args.thread c.args.value (held c.args.self.now) (rest c.settle.new.self) (rest c.lower.new.self)
    c.in_ok-settle.ensures c.in_ok-lower.ensures

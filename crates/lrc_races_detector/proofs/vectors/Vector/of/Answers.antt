-- What is known of a thread stands apart, or among the others.
use Rattle.std.proofs.Common.{arith}
use Rattle.lrc_races_detector.specs.Vectors.{rest}
use Rattle.lrc_races_detector.proofs.Entries.{entry_at}
use Rattle.lrc_races_detector.proofs.vectors.Vector.of.Goals as goal

pub returns : goal.returns
returns c =
    let self = c.args.self.now in
    omega (arith, entry_at self.apart (rest self) c.args.thread)

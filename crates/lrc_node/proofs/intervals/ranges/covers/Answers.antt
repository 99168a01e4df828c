use Rattle.lrc_node.proofs.InRange.{covers_is}
use Rattle.lrc_node.proofs.intervals.ranges.covers.Goals as goal

pub returns : goal.returns
returns c = covers_is c.covers.result c.args.time.now c.args.other.now c.covers.ensures

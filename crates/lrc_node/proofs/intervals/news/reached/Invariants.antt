use Rattle.std.proofs.Common.{take}
use Rattle.lrc_node.specs.News.{AreUnbroken}
use Rattle.lrc_node.proofs.intervals.news.reached.Given as goal

abbrev pub invariant-loop-interval : goal.invariant-loop-interval
invariant-loop-interval l = AreUnbroken l.known (take l.interval-index l.intervals) l.reached

use Rattle.std.proofs.Common.{take}
use Rattle.lrc_node.specs.News.{IsUnbrokenRun}
use Rattle.lrc_node.proofs.intervals.news.are_between.Given as goal

abbrev pub invariant-loop-interval : goal.invariant-loop-interval
invariant-loop-interval l = IsUnbrokenRun (take l.interval-index l.intervals) l.node l.above l.last

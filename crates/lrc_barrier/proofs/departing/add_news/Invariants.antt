use Rattle.std.proofs.Common.{◌≡◌, ◌++◌, take}
use Rattle.lrc_barrier.proofs.departing.add_news.Given as goal

abbrev pub invariant-loop-interval : goal.invariant-loop-interval
invariant-loop-interval l = l.news.items ≡ l.initial.news.items ++ take l.interval-index l.interval-items

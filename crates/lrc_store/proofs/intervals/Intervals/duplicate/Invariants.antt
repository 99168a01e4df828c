use Rattle.std.proofs.Common.{◌≡◌, take}
use Rattle.lrc_store.proofs.intervals.Intervals.duplicate.Given as goal

abbrev pub invariant-loop-interval : goal.invariant-loop-interval
invariant-loop-interval l = l.list.items ≡ take l.interval-index l.interval-items

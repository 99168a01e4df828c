use Rattle.std.proofs.Common.{◌<◌, ℕ}
use Rattle.lrc_orders_away.specs.Undisputed.{StaysAway}
use Rattle.lrc_orders_away.proofs.undisputed.is_undisputed.Given as goal

abbrev pub invariant-loop-other : goal.invariant-loop-other
invariant-loop-other l = (k : ℕ) → k < l.other → StaysAway l.flat l.state l.node l.deed k

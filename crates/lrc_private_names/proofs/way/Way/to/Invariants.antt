-- The way is that up to the act that comes next.
use Rattle.std.proofs.Common.{ℕ, List}
use Rattle.lrc_private_names.specs.Ways.{IsWayTo}
use Rattle.lrc_private_names.proofs.way.Way.to.Given as goal

abbrev pub invariant-loop-at : goal.invariant-loop-at
invariant-loop-at l = (lines : List ℕ) → IsWayTo l.code l.nodes lines l.acts l.me l.at l.way

use Rattle.std.proofs.Common.{◌≡◌, ◌<◌, ℕ}
use Rattle.std.specs.Prelude.{Some, slice_get}
use Rattle.lrc_orders_reach.specs.declared.standing.Standing.{Standing}
use Rattle.lrc_orders_away.specs.Away.{IsAwayAt}
use Rattle.lrc_orders_away.proofs.conflict.may_conflict.Given as goal

abbrev pub invariant-loop-standing : goal.invariant-loop-standing
invariant-loop-standing l = (k : ℕ) (standing : Standing) → k < l.standing-index → slice_get l.all k ≡ Some standing → IsAwayAt l.follower standing l.deed

-- What is kept is as it was.
use Rattle.std.proofs.Common.{◌≡◌, ℕ, ◌+◌, ◌-◌, vec_len}
use Rattle.lrc_races_why.specs.Held.{holding_at}
use Rattle.lrc_races_why.proofs.held.set.Given as goal

abbrev pub invariant-loop-holdings : goal.invariant-loop-holdings
invariant-loop-holdings l = (other : ℕ) → holding_at l.holdings.items other ≡ holding_at l.initial.holdings.items other

abbrev pub decreases-loop-holdings : goal.decreases-loop-holdings
decreases-loop-holdings l = (l.lock + 1) - vec_len l.holdings

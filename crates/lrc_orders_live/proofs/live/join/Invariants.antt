use Rattle.std.proofs.Common.{◌≡◌, ◌<◌, ◌≤◌, ◌||◌, ℕ}
use Rattle.lrc_orders_live.specs.Live.{has}
use Rattle.lrc_orders_live.proofs.live.join.Given as goal

abbrev pub invariant-loop-name : goal.invariant-loop-name
invariant-loop-name l =
    ((k : ℕ) → k < l.name → has l.names k ≡ (has l.initial.names k || has l.more k)) × ((k : ℕ) → l.name ≤ k → has l.names k ≡ has l.initial.names k)

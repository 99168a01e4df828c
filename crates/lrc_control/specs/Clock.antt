-- What a node's clock and tokens keep of one another.
use Rattle.std.specs.Prelude.{◌≡◌, ℕ, ◌<◌, ◌≤◌, length}
use Rattle.lrc_protocol.specs.Locks.{Locks}

-- The time has an entry for each node, of which this is one; tokens and managed locks are this node's, of as many nodes,
-- and of the same locks.
pub record IsClock (me : ℕ) (locks : Locks) : Type 0 where
  pub here : me < length locks.time
  pub few : length locks.time ≤ 16
  pub tokens : locks.held.me ≡ me
  pub nodes : locks.held.nodes ≡ length locks.time
  pub manager : locks.managed.me ≡ me
  pub managing : locks.managed.nodes ≡ length locks.time
  pub same : length locks.managed.recent ≡ length locks.held.locks

-- it is the same node, of as many, with as many locks
pub record SameClock (before after : Locks) : Type 0 where
  pub me : after.held.me ≡ before.held.me
  pub nodes : length after.time ≡ length before.time
  pub locks : length after.held.locks ≡ length before.held.locks

-- Locks, one token for each (Keleher, Cox, Dwarkadas and Zwaenepoel 1994): which node manages a lock, and what a node
-- knows of it.
use Rattle.std.specs.Prelude.{◌≡◌, ◌≢◌, ℕ, ◌<◌, ◌%◌, length, IfSome}
use Rattle.lrc_lock.specs.declared.state.Pass.{Pass}
use Rattle.lrc_lock.specs.declared.state.Waiter.{Waiter}
use Rattle.lrc_lock.specs.declared.state.LockState.{LockState}
use Rattle.lrc_lock.specs.declared.state.LockState.TheVariants.{Away, Awaited, Free, Held}

-- the node that manages the lock, and has its token at the start
abbrev pub manager_of : ℕ → ℕ → ℕ
manager_of nodes lock = lock % nodes

-- the successor is another of so many nodes, and the time that came with its request has an entry for each
pub record IsWaiter (me nodes : ℕ) (waiter : Waiter) : Type 0 where
  pub another : waiter.node ≢ me
  pub in_range : waiter.node < nodes
  pub counted : length waiter.time ≡ nodes

-- the successor is one as above, and the kept time has an entry for each node
abbrev pub IsLockState : ℕ → ℕ → LockState → Type 0
IsLockState me nodes Away = Unit {0}
IsLockState me nodes (Awaited successor) = IfSome successor (IsWaiter me nodes)
IsLockState me nodes (Free kept) = length kept ≡ nodes
IsLockState me nodes (Held successor) = IfSome successor (IsWaiter me nodes)

-- the pass goes to another of so many nodes, and each of its times has an entry for each
pub record IsPass (me nodes : ℕ) (pass : Pass) : Type 0 where
  pub another : pass.to ≢ me
  pub in_range : pass.to < nodes
  pub since : length pass.since ≡ nodes
  pub upto : length pass.upto ≡ nodes

-- Copies of states with notes.
use Rattle.std.proofs.Common.{◌≡◌}
use Rattle.lrc_orders.specs.declared.noted.Noted.{Noted}
use Rattle.lrc_exec.specs.States.{IsCopy}

-- the two have the same items
pub record IsNotedCopy (copy key : Noted) : Type 0 where
  pub state : IsCopy copy.state key.state
  pub notes : copy.notes.items ≡ key.notes.items

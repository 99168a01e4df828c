-- A machine that runs a thread.
use Rattle.std.specs.Prelude.{◌≤◌, length}
use Rattle.lrc_exec.specs.declared.machine.Machine.TheInside.{Inside}
use Rattle.lrc_exec.specs.Spots.{thread_at, IsFlat}
use Rattle.lrc_exec.specs.Wish.{IsWishOf}

-- it stands at a place of sound code, and knows what its thread asks for there
pub record IsRunning (machine : Inside) : Type 0 where
  pub flat : IsFlat machine.flat
  pub within : machine.spot.place ≤ length machine.flat.code.now
  pub wish : IsWishOf (thread_at machine.flat machine.spot) machine.wish

-- What separates accesses, asked of a detector.
use Rattle.std.specs.Prelude.{ℕ, ◌≤◌, List, length}
use Rattle.lrc_races_trace.specs.declared.event.Event.{Event}
use Rattle.lrc_races_text.specs.Detecting.{HasTaken}
use Rattle.lrc_races_claims.specs.declared.asking.Asker.{Asker}

-- its detector has taken the first so many events of the trace
pub record HasAsked (events : List Event) (n : ℕ) (asker : Asker) : Type 0 where
  pub within : n ≤ length events
  pub taken : HasTaken asker.sought events n asker.detector

-- or some of them
pub record IsAsking (events : List Event) (asker : Asker) : Type 0 where
  pub n : ℕ
  pub has : HasAsked events n asker

-- or no more than so many
pub record IsAskingUpTo (events : List Event) (position : ℕ) (asker : Asker) : Type 0 where
  pub n : ℕ
  pub le : n ≤ position
  pub has : HasAsked events n asker

-- The detector, after the events before a position.
use Rattle.std.specs.Prelude.{◌≡◌, ℕ, ◌<◌, ◌↔◌, List, AllPairs, Contains}
use Rattle.lrc_races_trace.specs.declared.event.Event.{Event}
use Rattle.lrc_races_trace.specs.declared.event.Pair.{Pair}
use Rattle.lrc_races_trace.specs.Races.{ComesFirst}
use Rattle.lrc_races_sure.specs.Sure.{IsSureTold}
use Rattle.lrc_races_detector.specs.Knowing.{AreVariables}
use Rattle.lrc_races_sure_pass.specs.declared.detector.SureDetector.{SureDetector}
use Rattle.lrc_races_sure_pass.specs.Covers.{AreCovers}
use Rattle.lrc_races_sure_pass.specs.Knowing.{AreThreads, AreLocks, AreBarriers, AreWrites}

-- The detector has taken the events before position n of the trace, whatever stands behind them.
pub record HasTaken (events : List Event) (n : ℕ) (detector : SureDetector) : Type 0 where
  pub position : detector.position ≡ n
  pub threads : AreThreads events n detector.threads
  pub locks : AreLocks events n detector.locks
  pub barriers : AreBarriers events n detector.barriers
  pub variables : AreVariables events n detector.variables
  pub writes : AreWrites events n detector.writes
  pub covers : AreCovers events n detector.covers

-- the pairs are exactly those that are told of the events before this position
pub record AreSureToldBefore (events : List Event) (n : ℕ) (pairs : List Pair) : Type 0 where
  pub in_order : AllPairs ComesFirst pairs
  pub exact : (pair : Pair) → Contains pairs pair ↔ (IsSureTold events pair × (pair.later.position < n))

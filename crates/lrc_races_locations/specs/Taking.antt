-- The detector of pairs of locations, after the events before a position.
use Rattle.std.specs.Prelude.{ℕ, List}
use Rattle.lrc_races_trace.specs.declared.event.Event.{Event}
use Rattle.lrc_races_text.specs.declared.asked.Sought.{Sought}
use Rattle.lrc_races_text.specs.Detecting.{HasTaken}
use Rattle.lrc_races_locations.specs.declared.detector.LocationDetector.{LocationDetector}
use Rattle.lrc_races_locations.specs.Finding.{HasShown}

-- it has taken the events before position n of the trace, whatever stands behind them
pub record HasLocated (sought : Sought) (events : List Event) (n : ℕ) (detector : LocationDetector) : Type 0 where
  pub taken : HasTaken sought events n detector.detector
  pub shown : HasShown sought events n detector.locator

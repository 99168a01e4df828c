-- The detector of the races that are asked for, after the events before a position.
use Rattle.std.specs.Prelude.{ℕ, List}
use Rattle.lrc_races_trace.specs.declared.event.Event.{Event}
use Rattle.lrc_races_detector.specs.Detecting.{HasTaken as HasTakenAll}
use Rattle.lrc_races_sure_pass.specs.Detecting.{HasTaken as HasTakenSure}
use Rattle.lrc_races_text.specs.declared.asked.Sought.{Sought}
use Rattle.lrc_races_text.specs.declared.asked.Sought.TheVariants.{AllRaces, SureRaces}
use Rattle.lrc_races_text.specs.declared.race_detector.RaceDetector.{RaceDetector}
use Rattle.lrc_races_text.specs.declared.race_detector.RaceDetector.TheVariants.{All, Sure}

-- how many events it has taken
abbrev pub position_of : RaceDetector → ℕ
position_of (All detector) = detector.position
position_of (Sure detector) = detector.position

-- It is one of these races, and has taken the events before position n of the trace, whatever stands behind them.
abbrev pub HasTaken : Sought → List Event → ℕ → RaceDetector → Type 0
HasTaken AllRaces events n (All detector) = HasTakenAll events n detector
HasTaken AllRaces events n (Sure detector) = ⊥
HasTaken SureRaces events n (All detector) = ⊥
HasTaken SureRaces events n (Sure detector) = HasTakenSure events n detector

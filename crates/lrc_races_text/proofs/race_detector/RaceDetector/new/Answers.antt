-- The detector of the races that are asked for.
use Rattle.std.proofs.Common.{subst, sym}
use Rattle.lrc_races_text.specs.declared.asked.Sought.{Sought}
use Rattle.lrc_races_text.specs.declared.race_detector.RaceDetector.TheVariants.{All, Sure}
use Rattle.lrc_races_text.specs.Detecting.{HasTaken}
use Rattle.lrc_races_text.proofs.race_detector.RaceDetector.new.Goals as goal

pub returns-in-AllRaces : goal.returns-in-AllRaces
returns-in-AllRaces c = λ events. subst (λ (s : Sought). HasTaken s events 0 (All c.new.result)) (sym c.in-AllRaces.is) (c.new.ensures events)

pub returns-in-SureRaces : goal.returns-in-SureRaces
returns-in-SureRaces c = λ events. subst (λ (s : Sought). HasTaken s events 0 (Sure c.new-in-SureRaces.result)) (sym c.in-SureRaces.is) (c.new-in-SureRaces.ensures events)

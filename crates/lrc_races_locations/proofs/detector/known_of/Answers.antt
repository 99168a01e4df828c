-- What its thread knows is what comes before an access.
use Rattle.lrc_races_detector.specs.Vectors.{entries}
use Rattle.lrc_races_locations.proofs.Knowing.{known_all, known_surely}
use Rattle.lrc_races_locations.proofs.detector.known_of.Goals as goal

pub returns-in-All : goal.returns-in-All
returns-in-All c = λ sought events n v event taken at of accesses.
    known_all sought events n v event c.args.thread _ _ (entries c.row.result) taken at of accesses c.in-All.is c.row.ensures

pub returns-in-Sure : goal.returns-in-Sure
returns-in-Sure c = λ sought events n v event taken at of accesses.
    known_surely sought events n v event c.args.thread _ _ (entries c.row-in-Sure.result) taken at of accesses c.in-Sure.is c.row-in-Sure.ensures

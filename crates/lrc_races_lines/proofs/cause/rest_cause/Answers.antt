-- With a second bar, or without.
use Rattle.lrc_races_lines.proofs.Caused.{rest-placed, rest-unplaced}
use Rattle.lrc_races_lines.proofs.cause.rest_cause.Goals as goal

pub returns-in-Some : goal.returns-in-Some
returns-in-Some c = λ thread name feeds none.
    rest-placed thread c.args.rest.now c.in-Some.operation.now c.in-Some.third.now _ c.in-Some.ensures.0 name feeds none c.placed_cause.ensures

pub returns-in-None : goal.returns-in-None
returns-in-None c = λ thread name feeds none. rest-unplaced thread c.args.rest.now _ name feeds none c.unplaced_cause.ensures

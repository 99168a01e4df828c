-- It goes on from where it is, or from the beginning.
use Rattle.std.proofs.Common.{arith}
use Rattle.lrc_races_locations.proofs.Knowing.{taken_position}
use Rattle.lrc_races_claims.proofs.asking.Asker.reach.Goals as goal

pub go_on-requires-clause-asking : goal.go_on-requires-clause-asking
go_on-requires-clause-asking c =
    let asking = c.requires.asking in
    let self = c.args.self.now in
    let at = taken_position self.sought c.args.events.now asking.n self.detector asking.has.taken in
    record { n = asking.n; le = omega (arith, at); has = asking.has }

pub go_on-requires-2-clause-asking : goal.go_on-requires-2-clause-asking
go_on-requires-2-clause-asking c = record { n = 0; le = omega arith; has = c.restart.ensures.asked c.args.events.now }

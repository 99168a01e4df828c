-- The event is numbered, and taken.
use Rattle.std.proofs.Common.{arith}
use Rattle.lrc_races_locations.proofs.Locating.{located_one}
use Rattle.lrc_races_locations.proofs.located.Located.locate.Goals as goal

pub returns-clause-ok : goal.returns-clause-ok
returns-clause-ok c = located_one _ _ _ c.in_ok-event.event c.in_ok-event.ensures.mentioned c.in_ok-event.ensures.event (omega arith)
    c.in_ok-take.ensures c.in_ok-take-2.ensures

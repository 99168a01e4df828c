use Rattle.std.proofs.Common.{◌≡◌, Some}
use Rattle.lrc_protocol.specs.Run.{fresh_world, run_of, World}
use Rattle.lrc_chart_invalid.proofs.Finding.{IsPlayed}
use Rattle.lrc_chart_invalid.proofs.turns.invalidated.Given as goal

-- the events so far are played
abbrev pub invariant-loop-event : goal.invariant-loop-event
invariant-loop-event l = (end : World) → run_of l.code l.nodes l.options l.events ≡ Some end
    → IsPlayed (fresh_world l.code l.nodes l.options) l.events l.event-index l.replay l.found.items

use Rattle.std.proofs.Common.{◌≡◌, ℕ, length, map}
use Rattle.lrc_program.specs.declared.Program.{Program}
use Rattle.lrc_protocol.specs.Node.{OptionsRecord}
use Rattle.lrc_world.proofs.Walked.{Walks}
use Rattle.lrc_world.proofs.turned.turned_events.Given as goal

-- the walk has met the turns of the events so far
abbrev pub invariant-loop-event : goal.invariant-loop-event
invariant-loop-event l = (length l.walk.come.items ≡ length l.logs) × ((program : Program) (nodes : ℕ) (options : OptionsRecord)
    → Walks program nodes options l.events (map (λ log. log.items) l.logs) l.event-index l.walk.come.items l.walk.flight.items l.turned.items)

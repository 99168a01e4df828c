use Rattle.std.proofs.Common.{◌≡◌, Some}
use Rattle.lrc_protocol.specs.Run.{fresh_world, run_of, World}
use Rattle.lrc_states.proofs.Starting.{IsBefore}
use Rattle.lrc_states.proofs.start.events_before.Given as goal

-- the events so far are played, and none of their turns makes the act at the position
abbrev pub invariant-loop-place : goal.invariant-loop-place
invariant-loop-place l =
    (made : World) → run_of l.code l.told.nodes l.told.options l.told.events.now ≡ Some made
    → IsBefore (fresh_world l.code l.told.nodes l.told.options) l.told.events.now l.place l.position l.left l.replay

use Rattle.std.proofs.Common.{◌≡◌, ◌++◌, take}
use Rattle.std.specs.Prelude.{codes}
use Rattle.lrc_messages.specs.Lists.{separated}
use Rattle.lrc_states.specs.Objects.{message_object}
use Rattle.lrc_states.proofs.player.Player.push_flight.Given as goal

-- the messages so far
abbrev pub invariant-loop-place : goal.invariant-loop-place
invariant-loop-place l = l.line.items ≡ l.initial.line.items ++ separated (codes ",") message_object (take l.place l.self.replay.flight.items)

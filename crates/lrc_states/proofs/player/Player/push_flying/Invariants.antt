use Rattle.std.proofs.Common.{◌≡◌, ◌++◌, take}
use Rattle.std.specs.Prelude.{codes}
use Rattle.lrc_messages.specs.Lists.{separated}
use Rattle.lrc_states.specs.Members.{envelope_parts}
use Rattle.lrc_states.proofs.player.Player.push_flying.Given as goal

-- the messages so far
abbrev pub invariant-loop-place : goal.invariant-loop-place
invariant-loop-place l = l.line.items ≡ l.initial.line.items ++ separated (codes ",") envelope_parts (take l.place l.self.replay.flight.items)

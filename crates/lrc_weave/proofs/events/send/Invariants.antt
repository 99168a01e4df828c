use Rattle.std.proofs.Common.{◌≡◌, ◌++◌, map, take}
use Rattle.lrc_weave.specs.Events.{message_name}
use Rattle.lrc_weave.proofs.events.send.Given as goal

abbrev pub invariant-loop-envelope : goal.invariant-loop-envelope
invariant-loop-envelope l = l.flight.items ≡ l.initial.flight.items ++ map message_name (take l.envelope-index l.out)

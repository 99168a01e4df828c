use Rattle.std.proofs.Common.{◌≡◌, ◌++◌, map, take}
use Rattle.lrc_world.proofs.turned.send.Given as goal

-- the receivers of the messages so far are in flight
abbrev pub invariant-loop-envelope : goal.invariant-loop-envelope
invariant-loop-envelope l = l.flight.items ≡ l.fn.flight.items ++ map (λ envelope. envelope.to) (take l.envelope-index l.out)

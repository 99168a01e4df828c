use Rattle.std.proofs.Common.{◌≡◌, ◌++◌}
use Rattle.lrc_replay.proofs.replay.Replay.post.Given as goal

-- the messages so far are in flight
abbrev pub invariant-loop-envelope : goal.invariant-loop-envelope
invariant-loop-envelope l = record {
  nodes : l.self.nodes ≡ l.initial.self.nodes;
  flight : l.self.flight.items ≡ l.initial.self.flight.items ++ l.yielded;
}

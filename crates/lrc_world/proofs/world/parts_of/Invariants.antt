use Rattle.std.proofs.Common.{◌≡◌, map}
use Rattle.lrc_world.proofs.world.parts_of.Given as goal

-- the turns of the nodes so far, and their traces
abbrev pub invariant-loop-node : goal.invariant-loop-node
invariant-loop-node l = record {
  logs : map (λ log. log.items) l.logs.items ≡ map (λ node. node.logged.log) l.yielded;
  traces : l.traces.items ≡ map (λ node. node.trace) l.yielded;
}

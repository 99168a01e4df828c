use Rattle.std.proofs.Common.{◌≡◌, ◌≤◌, length}
use Rattle.std.specs.Prelude.{filter}
use Rattle.std.specs.List.{range_with_len}
use Rattle.lrc_protocol.specs.Run.{World as Run}
use Rattle.lrc_world.specs.Rounds.{ready_at}
use Rattle.lrc_world.specs.World.{Starts, Shows}
use Rattle.lrc_world.proofs.world.World.ready_nodes.Given as goal

-- the ready ones so far
abbrev pub invariant-loop-node : goal.invariant-loop-node
invariant-loop-node l = record {
  few : length l.ready.items ≤ l.node;
  ready : (starts : Starts) (run : Run) → Shows starts l.self run → l.ready.items ≡ filter (ready_at run) (range_with_len 0 l.node);
}

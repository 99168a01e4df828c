use Rattle.std.proofs.Common.{◌≡◌, ◌≤◌, length}
use Rattle.lrc_envelope.specs.declared.picker.Picker.{Picker}
use Rattle.lrc_world.specs.Driven.{IsDrivenOn, IsStill, NoneReady}
use Rattle.lrc_world.specs.Rounds.{schedule_of_rounds, at_node}
use Rattle.lrc_world.proofs.rounds.Driver.run_each.Given as goal

-- the nodes so far had their turns; without an event, they are not ready
abbrev pub invariant-loop-node : goal.invariant-loop-node
invariant-loop-node l = record {
  goes : (picker : Picker) → IsDrivenOn (schedule_of_rounds picker l.nodes) (at_node 0) (at_node l.node) l.initial.self l.self;
  more : length l.initial.self.events.items ≤ length l.self.events.items;
  still : IsStill l.initial.self l.self → (l.self.world ≡ l.initial.self.world) × NoneReady l.node l.initial.self.world;
}

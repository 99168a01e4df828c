use Rattle.std.proofs.Common.{◌≡◌, ◌≤◌, ◌-◌, ℕ, length}
use Rattle.lrc_world.specs.Driven.{IsDrivenOn, IsStill}
use Rattle.lrc_world.specs.Rounds.{schedule_of_rounds, at_node, delivering}
use Rattle.lrc_world.proofs.rounds.Driver.deliver_each.Given as goal

-- so many messages were delivered; without an event, none was
abbrev pub invariant-loop-message : goal.invariant-loop-message
invariant-loop-message l = record {
  goes : (nodes : ℕ) → IsDrivenOn (schedule_of_rounds l.picker nodes) (at_node nodes) (delivering (l.count - l._message)) l.initial.self l.self;
  more : length l.initial.self.events.items ≤ length l.self.events.items;
  still : IsStill l.initial.self l.self → (l.self.world ≡ l.initial.self.world) × (l._message ≡ 0);
}

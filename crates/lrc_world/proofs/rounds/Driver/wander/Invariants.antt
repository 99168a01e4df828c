use Rattle.std.proofs.Common.{◌≡◌, length}
use Rattle.lrc_world.specs.Driven.{IsDrivenOn}
use Rattle.lrc_world.specs.Random.{wandering}
use Rattle.lrc_world.proofs.rounds.Driver.wander.Given as goal

-- one event for each number so far
abbrev pub invariant-loop-event : goal.invariant-loop-event
invariant-loop-event l = record {
  goes : IsDrivenOn (wandering l.nodes l.seed) l.seed l.random.state l.initial.self l.self;
  count : length l.self.events.items ≡ l._event;
}

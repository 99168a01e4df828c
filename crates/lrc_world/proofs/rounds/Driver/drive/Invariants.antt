use Rattle.std.proofs.Common.{◌-◌, ◌≤◌, length, vec_len}
use Rattle.lrc_world.specs.declared.report.TheConstants.{MOST_EVENTS}
use Rattle.lrc_world.specs.Driven.{IsDrivenOn}
use Rattle.lrc_world.specs.Rounds.{schedule_of_rounds, at_node}
use Rattle.lrc_world.proofs.rounds.Driver.drive.Given as goal

-- whole rounds so far
abbrev pub invariant-rounds : goal.invariant-rounds
invariant-rounds l = record {
  goes : IsDrivenOn (schedule_of_rounds l.picker l.nodes) (at_node 0) (at_node 0) l.initial.self l.self;
  few : length l.self.events.items ≤ MOST_EVENTS;
}

abbrev pub decreases-rounds : goal.decreases-rounds
decreases-rounds l = MOST_EVENTS - vec_len l.self.events

-- One message more was delivered in each turn of the loop.
use Rattle.std.proofs.Common.{◌≡◌, ◌+◌, ℕ, length}
use Rattle.lrc_program.specs.declared.Program.{Program}
use Rattle.lrc_protocol.specs.Node.{OptionsRecord}
use Rattle.lrc_explore_events.specs.Playing.{IsDraining}
use Rattle.lrc_explore_events.proofs.order.drain.Given as goal

abbrev pub invariant-loop-event : goal.invariant-loop-event
invariant-loop-event l = record {
  drains : (program : Program) (nodes : ℕ) (options : OptionsRecord)
      → IsDraining program nodes options l.initial.player.events.items l.initial.player
      → IsDraining program nodes options l.initial.player.events.items l.player;
  count : length l.player.events.items ≡ length l.initial.player.events.items + l._event;
}

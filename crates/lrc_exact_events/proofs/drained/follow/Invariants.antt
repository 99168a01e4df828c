-- The events so far are due, one for each turn of the loop.
use Rattle.std.proofs.Common.{◌≡◌, ℕ, length}
use Rattle.lrc_program.specs.declared.Program.{Program}
use Rattle.lrc_protocol.specs.Node.{OptionsRecord}
use Rattle.lrc_exact_events.specs.Playing.{IsPlaying}
use Rattle.lrc_exact_events.proofs.drained.follow.Given as goal

abbrev pub invariant-loop-event : goal.invariant-loop-event
invariant-loop-event l = record {
  plays : (program : Program) (nodes : ℕ) (options : OptionsRecord) → IsPlaying program nodes options l.order l.initial.player
      → IsPlaying program nodes options l.order l.player;
  count : length l.player.events.items ≡ l._event;
}

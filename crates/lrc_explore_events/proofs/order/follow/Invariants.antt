-- The events so far lead along the order, one for each turn of the loop.
use Rattle.std.proofs.Common.{◌≡◌, ℕ, length}
use Rattle.lrc_program.specs.declared.Program.{Program}
use Rattle.lrc_lines.specs.Statements.{act_statements}
use Rattle.lrc_protocol.specs.Node.{OptionsRecord}
use Rattle.lrc_explore_events.specs.Playing.{IsFollowing}
use Rattle.lrc_explore_events.proofs.order.follow.Given as goal

abbrev pub invariant-loop-event : goal.invariant-loop-event
invariant-loop-event l = record {
  follows : (program : Program) (nodes : ℕ) (options : OptionsRecord) → l.statements ≡ act_statements program nodes l.order
      → IsFollowing program nodes options l.order l.initial.player → IsFollowing program nodes options l.order l.player;
  count : length l.player.events.items ≡ l._event;
}

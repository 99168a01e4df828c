use Rattle.std.proofs.Common.{◌≡◌, ◌++◌, drop, length}
use Rattle.lrc_protocol.specs.Run.{turns_of_logs}
use Rattle.lrc_world.specs.Origins.{act_turns, turns_along}
use Rattle.lrc_world.proofs.origins.act_turns.Given as goal

-- the positions of the turns so far that make acts, and behind them those of the turns that are left, are all of them
abbrev pub invariant-loop-position : goal.invariant-loop-position
invariant-loop-position l = record {
  counts : length l.come.items ≡ length l.logs;
  turns : l.turns.items ++ turns_along (turns_of_logs l.logs) l.come.items l.position (drop l.position l.turned)
      ≡ act_turns (turns_of_logs l.logs) l.turned;
}

use Rattle.std.proofs.Common.{◌≡◌}
use Rattle.std.specs.Prelude.{take}
use Rattle.lrc_node.specs.Logged.{ended_by}
use Rattle.lrc_node.proofs.logged.end_in_log.Given as goal

abbrev pub invariant-loop-entry : goal.invariant-loop-entry
invariant-loop-entry l = l.end ≡ ended_by (take l.entry-index l.log)

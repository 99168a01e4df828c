use Rattle.std.proofs.Common.{◌≡◌, ◌++◌, take}
use Rattle.std.specs.List.{flat_map}
use Rattle.lrc_stats.specs.Sent.{sent_by_turn}
use Rattle.lrc_stats.proofs.sent.add_log.Given as goal

-- the messages of the turns so far
abbrev pub invariant-loop-entry : goal.invariant-loop-entry
invariant-loop-entry l = l.sent.items ≡ l.initial.sent.items ++ flat_map sent_by_turn (take l.entry-index l.log)

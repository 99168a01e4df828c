use Rattle.std.proofs.Common.{◌≡◌, ◌++◌, take}
use Rattle.std.specs.List.{flat_map}
use Rattle.lrc_stats.specs.StatsText.{kind_line, message_kinds}
use Rattle.lrc_stats.proofs.stats.push_kinds.Given as goal

-- the lines of the kinds so far
abbrev pub invariant-loop-kind : goal.invariant-loop-kind
invariant-loop-kind l = l.text.items ≡ l.initial.text.items ++ flat_map (kind_line l.sent) (take l.kind-index message_kinds)

use Rattle.std.proofs.Common.{◌≡◌, ◌++◌, map, take}
use Rattle.std.specs.List.{flat_map}
use Rattle.lrc_stats.specs.DeedKinds.{deed_kinds}
use Rattle.lrc_stats.specs.StatsText.{acts_line}
use Rattle.lrc_stats.proofs.stats.push_acts.Given as goal

-- the lines of the kinds so far
abbrev pub invariant-loop-kind : goal.invariant-loop-kind
invariant-loop-kind l = l.text.items
    ≡ l.initial.text.items ++ flat_map (acts_line (map (λ log. log.items) l.logs)) (take l.kind-index deed_kinds)

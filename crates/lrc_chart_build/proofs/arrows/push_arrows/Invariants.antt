use Rattle.std.proofs.Common.{◌≡◌, ◌++◌, map, take}
use Rattle.lrc_chart_build.specs.Arrows.{shown_message_arrows}
use Rattle.lrc_chart_build.specs.Seen.{seen_arrow}
use Rattle.lrc_chart_build.proofs.arrows.push_arrows.Given as goal

-- the arrows to the turns so far
abbrev pub invariant-loop-count : goal.invariant-loop-count
invariant-loop-count l =
    map seen_arrow l.arrows.items
    ≡ map seen_arrow l.initial.arrows.items ++ shown_message_arrows l.places l.from l.envelope (take l.count l.turns)

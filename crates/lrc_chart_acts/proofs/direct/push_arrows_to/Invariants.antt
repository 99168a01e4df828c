use Rattle.std.proofs.Common.{◌≡◌, ◌++◌, map, take}
use Rattle.lrc_text.specs.Each.{each}
use Rattle.lrc_chart_build.specs.Seen.{seen_arrow}
use Rattle.lrc_chart_acts.specs.Direct.{arrow_between}
use Rattle.lrc_chart_acts.proofs.direct.push_arrows_to.Given as goal

-- the arrows from the rows so far
abbrev pub invariant-loop-from : goal.invariant-loop-from
invariant-loop-from l =
    map seen_arrow l.arrows.items
    ≡ map seen_arrow l.initial.arrows.items ++ each (arrow_between l.order l.acts l.to l.later) (take l.from l.above)

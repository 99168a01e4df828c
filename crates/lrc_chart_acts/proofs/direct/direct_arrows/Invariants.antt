use Rattle.std.proofs.Common.{◌≡◌, map, take}
use Rattle.lrc_text.specs.Each.{each}
use Rattle.lrc_chart_build.specs.Seen.{seen_arrow}
use Rattle.lrc_chart_acts.specs.Direct.{arrows_to}
use Rattle.lrc_chart_acts.proofs.direct.direct_arrows.Given as goal

-- the arrows to the rows so far
abbrev pub invariant-loop-to : goal.invariant-loop-to
invariant-loop-to l = map seen_arrow l.arrows.items ≡ each (arrows_to l.order l.acts l.places) (take l.to l.places)

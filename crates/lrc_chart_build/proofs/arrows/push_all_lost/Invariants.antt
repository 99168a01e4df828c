use Rattle.std.proofs.Common.{◌≡◌, ◌++◌, map, take}
use Rattle.std.specs.List.{flat_map}
use Rattle.lrc_chart_rows.specs.Takers.{takers}
use Rattle.lrc_chart_build.specs.Arrows.{lost_if}
use Rattle.lrc_chart_build.specs.Seen.{seen_lost}
use Rattle.lrc_chart_build.proofs.arrows.push_all_lost.Given as goal

-- what is lost of the messages so far
abbrev pub invariant-loop-envelope : goal.invariant-loop-envelope
invariant-loop-envelope l =
    map seen_lost l.all.items
    ≡ map seen_lost l.initial.all.items
    ++ flat_map (λ envelope. lost_if l.from envelope (takers l.turns envelope)) (take l.envelope-index l.out)

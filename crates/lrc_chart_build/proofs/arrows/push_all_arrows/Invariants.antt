use Rattle.std.proofs.Common.{◌≡◌, ◌++◌, map, take}
use Rattle.std.specs.List.{flat_map}
use Rattle.lrc_chart_rows.specs.Takers.{takers}
use Rattle.lrc_chart_build.specs.Arrows.{shown_message_arrows}
use Rattle.lrc_chart_build.specs.Seen.{seen_arrow}
use Rattle.lrc_chart_build.proofs.arrows.push_all_arrows.Given as goal

-- the arrows of the messages so far
abbrev pub invariant-loop-envelope : goal.invariant-loop-envelope
invariant-loop-envelope l =
    map seen_arrow l.arrows.items
    ≡ map seen_arrow l.initial.arrows.items
    ++ flat_map (λ envelope. shown_message_arrows l.places l.from envelope (takers l.turns envelope)) (take l.envelope-index l.out)

use Rattle.std.proofs.Common.{◌≡◌, map, take}
use Rattle.std.specs.Prelude.{slice_get}
use Rattle.std.specs.List.{flat_map}
use Rattle.lrc_text.specs.Each.{each}
use Rattle.lrc_chart_rows.specs.Takers.{takers}
use Rattle.lrc_chart_build.specs.Arrows.{sent_in_turn, shown_message_arrows}
use Rattle.lrc_chart_build.specs.Seen.{seen_arrow}
use Rattle.lrc_chart_build.proofs.arrows.arrows_of.Given as goal

-- the arrows of the rows so far
abbrev pub invariant-loop-from : goal.invariant-loop-from
invariant-loop-from l =
    map seen_arrow l.arrows.items
    ≡ each
    (λ from row. flat_map (λ envelope. shown_message_arrows l.places from envelope (takers l.turns envelope)) (sent_in_turn (slice_get l.turns row.turn)))
    (take l.from l.places)

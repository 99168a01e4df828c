use Rattle.std.proofs.Common.{◌≡◌, map, take}
use Rattle.std.specs.Prelude.{slice_get}
use Rattle.std.specs.List.{flat_map}
use Rattle.lrc_text.specs.Each.{each}
use Rattle.lrc_chart_rows.specs.Takers.{takers}
use Rattle.lrc_chart_build.specs.Arrows.{lost_if, sent_in_turn}
use Rattle.lrc_chart_build.specs.Seen.{seen_lost}
use Rattle.lrc_chart_build.proofs.arrows.lost_of.Given as goal

-- what is lost of the rows so far
abbrev pub invariant-loop-from : goal.invariant-loop-from
invariant-loop-from l =
    map seen_lost l.all.items
    ≡ each (λ from row. flat_map (λ envelope. lost_if from envelope (takers l.turns envelope)) (sent_in_turn (slice_get l.turns row.turn)))
    (take l.from l.places)

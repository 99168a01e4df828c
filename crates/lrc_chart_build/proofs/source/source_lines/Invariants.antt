use Rattle.std.proofs.Common.{◌≡◌, length, map, take}
use Rattle.lrc_text.specs.Each.{each}
use Rattle.lrc_chart_build.specs.Seen.{seen_line}
use Rattle.lrc_chart_build.specs.Source.{source_at}
use Rattle.lrc_chart_build.proofs.source.source_lines.Given as goal

-- the lines of the pieces so far
abbrev pub invariant-loop-place : goal.invariant-loop-place
invariant-loop-place l =
    map seen_line l.source.items
    ≡ each (source_at l.lines l.places (length l.pieces)) (take l.place (map (λ piece. piece.now) l.pieces))

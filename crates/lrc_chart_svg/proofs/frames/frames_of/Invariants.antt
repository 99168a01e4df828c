use Rattle.std.proofs.Common.{◌≡◌, ◌++◌, ◌∷◌, [], take}
use Rattle.std.specs.Prelude.{fold}
use Rattle.lrc_chart_svg.specs.Frames.{frame_below}
use Rattle.lrc_chart_svg.proofs.frames.frames_of.Given as goal

abbrev pub invariant-loop-row : goal.invariant-loop-row
invariant-loop-row l =
    l.frames.items ≡ fold (λ above row. above ++ frame_below l.picture above row ∷ []) [] (take l.row-index l.picture.rows.items)

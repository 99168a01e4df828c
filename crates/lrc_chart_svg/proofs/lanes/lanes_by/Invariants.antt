use Rattle.std.proofs.Common.{◌≡◌, ◌++◌, ◌∷◌, [], take}
use Rattle.std.specs.Prelude.{fold}
use Rattle.lrc_chart_svg.specs.Widths.{lane_behind}
use Rattle.lrc_chart_svg.proofs.lanes.lanes_by.Given as goal

abbrev pub invariant-loop-name : goal.invariant-loop-name
invariant-loop-name l =
    l.lanes.items ≡ fold (λ lanes name. lanes ++ lane_behind l.picture l.frames lanes name ∷ []) [] (take l.name-index l.picture.columns.items)

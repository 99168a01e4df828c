use Rattle.std.proofs.Common.{◌≡◌, ◌++◌, take}
use Rattle.std.specs.List.{flat_map}
use Rattle.lrc_chart_svg.specs.Marks.{all_marks}
use Rattle.lrc_chart_svg.specs.Plan.{plan_in}
use Rattle.lrc_chart_svg.specs.Shown.{arrow_marks}
use Rattle.lrc_chart_svg.proofs.arrows.push_arrows.Given as goal

abbrev pub invariant-loop-arrow : goal.invariant-loop-arrow
invariant-loop-arrow l =
    all_marks l.contents.items ≡ all_marks l.initial.contents.items ++ flat_map (arrow_marks (plan_in l.layout)) (take l.arrow-index l.arrows)

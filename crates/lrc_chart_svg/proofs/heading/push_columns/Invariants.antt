use Rattle.std.proofs.Common.{◌≡◌, ◌++◌, take}
use Rattle.lrc_text.specs.Each.{each}
use Rattle.lrc_chart_svg.specs.Marks.{all_marks}
use Rattle.lrc_chart_svg.specs.Plan.{plan_in}
use Rattle.lrc_chart_svg.specs.Shown.{column_marks}
use Rattle.lrc_chart_svg.proofs.heading.push_columns.Given as goal

abbrev pub invariant-loop-column : goal.invariant-loop-column
invariant-loop-column l =
    all_marks l.contents.items ≡ all_marks l.initial.contents.items ++ each (column_marks (plan_in l.layout) l.foot) (take l.column l.names)

use Rattle.std.proofs.Common.{◌≡◌, ◌++◌, take}
use Rattle.lrc_text.specs.Each.{each}
use Rattle.lrc_chart_svg.specs.Marks.{all_marks}
use Rattle.lrc_chart_svg.specs.Plan.{plan_in}
use Rattle.lrc_chart_svg.specs.Shown.{row_marks_at}
use Rattle.lrc_chart_svg.proofs.rows.push_rows.Given as goal

abbrev pub invariant-loop-number : goal.invariant-loop-number
invariant-loop-number l =
    all_marks l.contents.items ≡ all_marks l.initial.contents.items ++ each (row_marks_at (plan_in l.layout) l.arrows) (take l.number l.rows)

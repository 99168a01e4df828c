use Rattle.std.proofs.Common.{◌≡◌, ◌++◌, take}
use Rattle.lrc_text.specs.Each.{each}
use Rattle.lrc_chart_svg.specs.Marks.{all_marks}
use Rattle.lrc_chart_svg.specs.Plan.{plan_in}
use Rattle.lrc_chart_svg.specs.Shown.{deadlock_marks}
use Rattle.lrc_chart_svg.proofs.races.push_deadlocks.Given as goal

abbrev pub invariant-loop-place : goal.invariant-loop-place
invariant-loop-place l =
    all_marks l.contents.items ≡ all_marks l.initial.contents.items ++ each (deadlock_marks (plan_in l.layout) l.used) (take l.place l.deadlocks)

use Rattle.std.proofs.Common.{◌≡◌, ◌++◌, take}
use Rattle.lrc_text.specs.Each.{each}
use Rattle.lrc_chart_svg.specs.Marks.{all_marks}
use Rattle.lrc_chart_svg.specs.Shown.{source_marks}
use Rattle.lrc_chart_svg.proofs.source.push_source.Given as goal

abbrev pub invariant-loop-place : goal.invariant-loop-place
invariant-loop-place l =
    all_marks l.contents.items ≡ all_marks l.initial.contents.items ++ each (source_marks l.left l.width) (take l.place l.lines)

use Rattle.std.proofs.Common.{◌≡◌, ◌++◌, take}
use Rattle.lrc_text.specs.Each.{each}
use Rattle.lrc_chart_text.specs.Lines.{lines_text}
use Rattle.lrc_chart_text.specs.Sketch.{row_lines}
use Rattle.lrc_chart_text.proofs.whole.push_rows.Given as goal

abbrev pub invariant-loop-number : goal.invariant-loop-number
invariant-loop-number l =
    l.text.items ≡ l.initial.text.items ++ lines_text (each (row_lines l.picture) (take l.number l.picture.rows.items))

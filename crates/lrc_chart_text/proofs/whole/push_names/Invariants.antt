use Rattle.std.proofs.Common.{◌≡◌, ◌++◌, take, length}
use Rattle.lrc_text.specs.Each.{each}
use Rattle.lrc_chart_text.specs.Lines.{lines_text}
use Rattle.lrc_chart_text.specs.Sketch.{name_lines}
use Rattle.lrc_chart_text.proofs.whole.push_names.Given as goal

abbrev pub invariant-loop-column : goal.invariant-loop-column
invariant-loop-column l =
    l.text.items ≡ l.initial.text.items ++ lines_text (each (name_lines (length l.columns)) (take l.column l.columns))

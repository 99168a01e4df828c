use Rattle.std.proofs.Common.{◌≡◌, ◌++◌, take}
use Rattle.std.specs.List.{flat_map}
use Rattle.lrc_chart_text.specs.Lines.{lines_text}
use Rattle.lrc_chart_text.specs.Sketch.{deadlock_lines}
use Rattle.lrc_chart_text.proofs.whole.push_deadlocks.Given as goal

abbrev pub invariant-loop-words : goal.invariant-loop-words
invariant-loop-words l =
    l.text.items ≡ l.initial.text.items ++ lines_text (flat_map deadlock_lines (take l.words-index l.deadlocks))

use Rattle.std.proofs.Common.{◌≡◌, ◌++◌, take}
use Rattle.std.specs.List.{flat_map}
use Rattle.lrc_chart_text.specs.Lines.{lines_text}
use Rattle.lrc_chart_text.specs.Sketch.{race_lines}
use Rattle.lrc_chart_text.proofs.whole.push_races.Given as goal

abbrev pub invariant-loop-race : goal.invariant-loop-race
invariant-loop-race l =
    l.text.items ≡ l.initial.text.items ++ lines_text (flat_map (race_lines l.rows) (take l.race-index l.races))

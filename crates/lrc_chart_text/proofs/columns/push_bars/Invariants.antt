use Rattle.std.proofs.Common.{◌≡◌, ◌++◌}
use Rattle.lrc_chart_text.specs.Columns.{bars}
use Rattle.lrc_chart_text.proofs.columns.push_bars.Given as goal

abbrev pub invariant-loop-column : goal.invariant-loop-column
invariant-loop-column l = l.text.items ≡ l.initial.text.items ++ bars l.width l._column

use Rattle.std.proofs.Common.{◌≡◌, ◌++◌}
use Rattle.lrc_chart_text.specs.Columns.{cells}
use Rattle.lrc_chart_text.proofs.columns.push_cells.Given as goal

abbrev pub invariant-loop-column : goal.invariant-loop-column
invariant-loop-column l = l.text.items ≡ l.initial.text.items ++ cells l.width l.column l.shape

use Rattle.lrc_chart_text.specs.Columns.{cell}
use Rattle.lrc_chart_text.proofs.Steps.{range_pushed}
use Rattle.lrc_chart_text.proofs.columns.push_cells.Goals as goal

pub loop-column-preserved : goal.loop-column-preserved
loop-column-preserved c =
    range_pushed (cell c.args.width c.args.shape) c.loop-column.column c.args.text.now.items c.loop-column.text.items c.push_cell.new.text.items
    c.loop-column.invariant c.in_ok-push_cell.ensures

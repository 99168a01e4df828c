use Rattle.lrc_chart_text.specs.Columns.{bar}
use Rattle.lrc_chart_text.proofs.Steps.{range_pushed}
use Rattle.lrc_chart_text.proofs.columns.push_bars.Goals as goal

pub loop-column-preserved : goal.loop-column-preserved
loop-column-preserved c =
    range_pushed (λ column. bar c.args.width) c.loop-column._column c.args.text.now.items c.loop-column.text.items c.push_bar.new.text.items
    c.loop-column.invariant c.in_ok-push_bar.ensures

use Rattle.std.proofs.Common.{◌∙◌, ◌++◌, ap}
use Rattle.std.specs.Prelude.{replicate}
use Rattle.lrc_chart_text.specs.Columns.{width_of}
use Rattle.lrc_chart_text.proofs.Steps.{range_pushed}
use Rattle.lrc_chart_text.proofs.columns.push_rules.Goals as goal

pub loop-column-preserved : goal.loop-column-preserved
loop-column-preserved c =
    range_pushed (λ column. replicate (width_of c.args.columns) 61) c.loop-column._column c.args.text.now.items c.loop-column.text.items
    c.push_times.new.text.items c.loop-column.invariant
    (c.in_ok-push_times.ensures ∙ ap (λ w. c.loop-column.text.items ++ replicate w 61) c.width_of.ensures.is)

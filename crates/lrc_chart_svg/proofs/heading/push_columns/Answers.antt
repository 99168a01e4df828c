use Rattle.std.proofs.Common.{◌∙◌, ◌++◌, ℕ, ap, ap₂}
use Rattle.lrc_chart_svg.specs.declared.lanes.Lane.{Lane}
use Rattle.lrc_chart_svg.specs.Marks.{all_marks}
use Rattle.lrc_chart_svg.specs.Plan.{plan_in}
use Rattle.lrc_chart_svg.specs.Shown.{column_between, column_marks}
use Rattle.lrc_chart_svg.proofs.Painted.{each_marked}
use Rattle.lrc_chart_svg.proofs.heading.push_columns.Goals as goal

pub loop-column-preserved : goal.loop-column-preserved
loop-column-preserved c =
    let before = all_marks c.loop-column.contents.items in
    let name = c.index-names-column.result in
    each_marked (column_marks (plan_in c.args.layout.now) c.args.foot) c.args.names.now c.loop-column.column name
    (all_marks c.args.contents.now.items) before
    (all_marks c.push_column.new.contents.items) c.loop-column-test.true c.index-names-column.is c.loop-column.invariant
    (c.in_ok-push_column.ensures
    ∙ ap₂ (λ (l r : ℕ). before ++ column_between l r c.args.foot name) (ap (λ (lane : Lane). lane.left) c.lane.ensures) (ap (λ (lane : Lane). lane.right) c.lane.ensures))

use Rattle.std.proofs.Common.{◌≡◌, ◌∙◌, ◌++◌, ℕ, List, ap}
use Rattle.lrc_svg.proofs.Rows.{on_ok}
use Rattle.lrc_chart_svg.specs.Marks.{all_marks}
use Rattle.lrc_chart_svg.specs.Plan.{plan_in}
use Rattle.lrc_chart_svg.specs.Shown.{ground_marks, side_marks, legend_marks, run_marks, title_marks}
use Rattle.lrc_chart_svg.proofs.Painted.{five}
use Rattle.lrc_chart_svg.proofs.picture.push_picture.Goals as goal

pub returns : goal.returns
returns c =
    let picture = c.args.picture.now in
    let plan = plan_in c.args.layout.now in
    let size = c.args.size in
    let start = all_marks c.args.contents.now.items in
    let titled = all_marks c.push_title.new.contents.items in
    let title : titled ≡ start ++ title_marks size.whole.x size.whole.y picture.title.items =
    c.in_ok-push_title.ensures ∙ ap (λ (w : List ℕ). start ++ title_marks size.whole.x size.whole.y w) c.as_slice.ensures.value in
    on_ok c.push_side.result
    (five start titled (all_marks c.push_legend.new.contents.items)
    (all_marks c.push_ground.new.contents.items)
    (all_marks c.push_run.new.contents.items)
    (all_marks c.push_side.new.contents.items)
    (title_marks size.whole.x size.whole.y picture.title.items) legend_marks (ground_marks plan size.whole.x size.foot picture)
    (run_marks plan picture) (side_marks plan size.left picture)
    title c.in_ok-push_legend.ensures c.in_ok-push_ground.ensures c.in_ok-push_run.ensures)
    c.push_side.ensures

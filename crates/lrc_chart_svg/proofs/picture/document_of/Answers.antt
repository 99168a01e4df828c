use Rattle.std.proofs.Common.{◌∙◌, ◌++◌, ℕ, List, ap, ap₂}
use Rattle.lrc_svg.specs.declared.element.Content.{Content}
use Rattle.lrc_chart_svg.specs.Heights.{columns_foot, picture_high}
use Rattle.lrc_chart_svg.specs.Marks.{all_marks}
use Rattle.lrc_chart_svg.specs.Plan.{Plan, plan_in}
use Rattle.lrc_chart_svg.specs.Shown.{marks_by}
use Rattle.lrc_chart_svg.specs.Sizes.{base_wide, picture_wide}
use Rattle.lrc_chart_svg.proofs.picture.document_of.Goals as goal

pub returns-clause-shown : goal.returns-clause-shown
returns-clause-shown c =
    let picture = c.args.picture.now in
    let plan = plan_in c.in_ok-layout.layout in
    let size = c.of-size.result in
    c.in_ok-push_picture.ensures
    ∙ ap (λ (l : List Content). all_marks l ++ marks_by plan size.whole.x size.whole.y size.foot size.left picture) c.new-inside.ensures.items
    ∙ ap₂ (λ (w h : ℕ). marks_by plan w h size.foot size.left picture) c.of-size.ensures.wide c.of-size.ensures.high
    ∙ ap₂ (λ (f l : ℕ). marks_by plan (picture_wide plan picture) (picture_high plan picture) f l picture) c.of-size.ensures.foot
    c.of-size.ensures.left
    ∙ ap (λ (p : Plan). marks_by p (picture_wide p picture) (picture_high p picture) (columns_foot p picture) (base_wide p picture) picture)
    c.in_ok-layout.ensures

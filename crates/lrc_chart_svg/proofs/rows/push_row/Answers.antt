use Rattle.std.proofs.Common.{◌∙◌, ◌++◌, ◌∷◌, [], ℕ, List, ap}
use Rattle.lrc_svg.proofs.Rows.{on_ok}
use Rattle.lrc_chart_svg.specs.Marks.{all_marks, hint}
use Rattle.lrc_chart_svg.specs.Plan.{plan_in}
use Rattle.lrc_chart_svg.specs.Shown.{row_box_marks, row_word_marks}
use Rattle.lrc_chart_svg.proofs.Painted.{group_of_two}
use Rattle.lrc_chart_svg.proofs.rows.push_row.Goals as goal

pub returns : goal.returns
returns c =
    let plan = plan_in c.args.layout.now in
    let row = c.args.row.now in
    let none = all_marks c.new-inside.result.items in
    on_ok c.push_group.result
    (group_of_two (all_marks c.args.contents.now.items) (all_marks c.push_group.new.contents.items) none
    (all_marks c.push_hint.new.contents.items)
    (all_marks c.push_frame.new.inside.items)
    (all_marks c.push_words.new.inside.items) row.hint.items
    (row_box_marks plan c.args.number row) (row_word_marks plan c.args.arrows.now c.args.number row)
    (ap all_marks c.new-inside.ensures.items)
    (c.in_ok-push_hint.ensures ∙ ap (λ (w : List ℕ). none ++ hint w ∷ []) c.as_slice.ensures.value)
    c.in_ok-push_frame.ensures c.in_ok-push_words.ensures)
    c.push_group.ensures

use Rattle.std.proofs.Common.{◌∙◌, ◌∷◌, [], ℕ, List, ap}
use Rattle.lrc_svg.proofs.Rows.{on_ok}
use Rattle.lrc_chart_svg.specs.Marks.{all_marks, hint}
use Rattle.lrc_chart_svg.proofs.Said.{shows_alone}
use Rattle.lrc_chart_svg.proofs.paint.push_hint.Goals as goal

pub returns : goal.returns
returns c =
    on_ok c.push_element.result
    (λ marks_are. marks_are
    ∙ shows_alone (all_marks c.args.contents.now.items) _ _ _
    (ap (λ (w : List ℕ). hint w ∷ []) c.in_ok-text_of.ensures.told) c.in_ok-text_of.ensures.alone)
    c.push_element.ensures

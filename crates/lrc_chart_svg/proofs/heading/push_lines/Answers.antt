use Rattle.std.proofs.Common.{◌≡◌, ◌∙◌, ◌++◌, ℕ, List, ap, false, true}
use Rattle.std.specs.Prelude.{codes}
use Rattle.lrc_svg.proofs.Rows.{on_ok}
use Rattle.lrc_chart_svg.specs.Marks.{Mark, all_marks}
use Rattle.lrc_chart_svg.specs.Shown.{line, message_dashes, through}
use Rattle.lrc_chart_svg.proofs.Painted.{five}
use Rattle.lrc_chart_svg.proofs.heading.push_lines.Goals as goal

-- a line of these dashes
dashed : (old new : List Mark) (left : ℕ) (strokes dashes are name : List ℕ) → new ≡ old ++ line left strokes dashes name → dashes ≡ are
    → new ≡ old ++ line left strokes are name
dashed old new left strokes dashes are name new_is is = new_is ∙ ap (λ d. old ++ line left strokes d name) is

pub returns : goal.returns
returns c =
    let start = all_marks c.args.contents.now.items in
    let one = all_marks c.push_stroke.new.contents.items in
    let two = all_marks c.push_stroke-2.new.contents.items in
    let three = all_marks c.push_stroke-3.new.contents.items in
    let four = all_marks c.push_stroke-4.new.contents.items in
    let end = all_marks c.push_stroke-5.new.contents.items in
    on_ok c.push_stroke-5.result
    (λ last.
    five start one two three four end
    (line 502 (codes "h28") through (codes "interval ends")) (line 648 (codes "h28") (message_dashes false) (codes "message"))
    (line 750 (codes "h28") (message_dashes true) (codes "taken again"))
    (line 881 (codes "h23 m-5 -5 l10 10 m-10 0 l10 -10") (message_dashes false) (codes "never taken"))
    (line 1012 (codes "m0 -4 v8 m0 -4 h28 m0 -4 v8") through (codes "race"))
    (dashed start one _ _ _ _ _ c.in_ok-push_stroke.ensures c.line.ensures)
    (dashed one two _ _ _ _ _ c.in_ok-push_stroke-2.ensures c.message.ensures)
    (dashed two three _ _ _ _ _ c.in_ok-push_stroke-3.ensures c.message-2.ensures)
    (dashed three four _ _ _ _ _ c.in_ok-push_stroke-4.ensures c.message-3.ensures) (dashed four end _ _ _ _ _ last c.line-2.ensures))
    c.push_stroke-5.ensures

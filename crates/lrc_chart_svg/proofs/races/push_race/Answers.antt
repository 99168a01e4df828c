use Rattle.std.proofs.Common.{◌+◌, ◌∙◌, ◌++◌, ◌∷◌, [], ℕ, List, ap, ap₂, decimal}
use Rattle.lrc_svg.proofs.Rows.{on_ok}
use Rattle.lrc_chart_svg.specs.Heights.{line_foot, middle}
use Rattle.lrc_chart_svg.specs.Marks.{all_marks, hint}
use Rattle.lrc_chart_svg.specs.Plan.{plan_in}
use Rattle.lrc_chart_svg.specs.Shown.{knotted, race_ends, race_name, race_words}
use Rattle.lrc_chart_svg.specs.Ways.{end_side, start_side}
use Rattle.lrc_chart_svg.proofs.Painted.{group_of_three}
use Rattle.lrc_chart_svg.proofs.races.push_race.Goals as goal

pub returns : goal.returns
returns c =
    let plan = plan_in c.args.layout.now in
    let race = c.args.race.now in
    let none = all_marks c.new-inside.result.items in
    let one = all_marks c.push_hint.new.contents.items in
    let two = all_marks c.push_race_line.new.inside.items in
    let three = all_marks c.push_race_ends.new.inside.items in
    on_ok c.push_group.result
    (group_of_three (all_marks c.args.contents.now.items) (all_marks c.push_group.new.contents.items) none one two three
    (all_marks c.push_race_words.new.inside.items) race.hint.items
    (knotted (decimal (start_side plan race.first race.second)) (middle plan race.from) (decimal (end_side plan race.first race.second))
    (middle plan race.to))
    (race_ends plan race.from race.first race.to race.second (race_name race.number))
    (race_words (line_foot plan (c.args.used + c.args.place)) (race_name race.number) race.label.items)
    (ap all_marks c.new-inside.ensures.items)
    (c.in_ok-push_hint.ensures ∙ ap (λ (w : List ℕ). none ++ hint w ∷ []) c.as_slice.ensures.value)
    c.in_ok-push_race_line.ensures
    (c.in_ok-push_race_ends.ensures
    ∙ ap (λ (n : List ℕ). two ++ race_ends plan race.from race.first race.to race.second n) (c.deref.ensures.value ∙ c.in_ok-name.ensures))
    (c.in_ok-push_race_words.ensures
    ∙ ap₂ (λ (n w : List ℕ). three ++ race_words (decimal (c.line_height-foot.result + 4)) n w) (c.deref-2.ensures.value ∙ c.in_ok-name.ensures)
    c.as_slice-2.ensures.value
    ∙ ap (λ (h : ℕ). three ++ race_words (decimal (h + 4)) (race_name race.number) race.label.items) c.line_height-foot.ensures.exact))
    c.push_group.ensures

use Rattle.std.proofs.Common.{◌≡◌, ◌∙◌, ◌++◌, ◌∷◌, [], ℕ, List, ap, decimal}
use Rattle.lrc_svg.proofs.Rows.{on_ok}
use Rattle.lrc_chart_svg.specs.Marks.{all_marks, path, stroke}
use Rattle.lrc_chart_svg.specs.Shown.{knot, through}
use Rattle.lrc_chart_svg.proofs.Painted.{joined}
use Rattle.lrc_chart_svg.proofs.races.push_knotted.Goals as goal

pub returns : goal.returns
returns c =
    let from_left = decimal c.args.from.x in
    let from = decimal c.args.from.y in
    let to_left = decimal c.args.to.x in
    let to = decimal c.args.to.y in
    let start = all_marks c.args.inside.now.items in
    let lined = all_marks c.push_line.new.contents.items in
    let begun = all_marks c.push_path.new.contents.items in
    let end = all_marks c.push_path-2.new.contents.items in
    let line : lined ≡ start ++ stroke from_left from to_left to through ∷ [] =
    c.in_ok-push_line.ensures ∙ ap (λ (d : List ℕ). start ++ stroke from_left from to_left to d ∷ []) c.line.ensures in
    let first : begun ≡ lined ++ path from_left from knot through ∷ [] =
    c.in_ok-push_path.ensures ∙ ap (λ (d : List ℕ). lined ++ path from_left from knot d ∷ []) c.plain.ensures.dashes in
    on_ok c.push_path-2.result
    (λ last.
    joined start begun end (stroke from_left from to_left to through ∷ path from_left from knot through ∷ [])
    (path to_left to knot through ∷ [])
    (joined start lined begun (stroke from_left from to_left to through ∷ []) (path from_left from knot through ∷ []) line first)
    (last ∙ ap (λ (d : List ℕ). begun ++ path to_left to knot d ∷ []) c.plain-2.ensures.dashes))
    c.push_path-2.ensures

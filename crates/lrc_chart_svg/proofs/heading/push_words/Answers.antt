use Rattle.std.specs.Prelude.{codes}
use Rattle.lrc_svg.proofs.Rows.{on_ok}
use Rattle.lrc_chart_svg.specs.Marks.{all_marks}
use Rattle.lrc_chart_svg.specs.Shown.{told}
use Rattle.lrc_chart_svg.proofs.Painted.{five}
use Rattle.lrc_chart_svg.proofs.heading.push_words.Goals as goal

pub returns : goal.returns
returns c =
    on_ok c.push_told-5.result
    (five (all_marks c.args.contents.now.items) (all_marks c.push_told.new.contents.items)
    (all_marks c.push_told-2.new.contents.items)
    (all_marks c.push_told-3.new.contents.items)
    (all_marks c.push_told-4.new.contents.items)
    (all_marks c.push_told-5.new.contents.items)
    (told 8 (codes "in a box:")) (told 90 (codes "what was done"))
    (told 205 (codes "the node's time")) (told 335 (codes "pages now invalid"))
    (told 480 (codes "line and interval"))
    c.in_ok-push_told.ensures c.in_ok-push_told-2.ensures c.in_ok-push_told-3.ensures c.in_ok-push_told-4.ensures)
    c.push_told-5.ensures

use Rattle.std.specs.Prelude.{codes}
use Rattle.lrc_chart_model.specs.declared.picture.Kind.TheVariants as kinds
use Rattle.lrc_svg.proofs.Rows.{on_ok}
use Rattle.lrc_chart_svg.specs.Marks.{all_marks}
use Rattle.lrc_chart_svg.specs.Shown.{sample}
use Rattle.lrc_chart_svg.proofs.Painted.{five}
use Rattle.lrc_chart_svg.proofs.heading.push_samples.Goals as goal

pub returns : goal.returns
returns c =
    on_ok c.push_sample-5.result
    (five (all_marks c.args.contents.now.items) (all_marks c.push_sample.new.contents.items)
    (all_marks c.push_sample-2.new.contents.items)
    (all_marks c.push_sample-3.new.contents.items)
    (all_marks c.push_sample-4.new.contents.items)
    (all_marks c.push_sample-5.new.contents.items)
    (sample 8 kinds.Act (codes "act")) (sample 80 kinds.Wait (codes "waits")) (sample 167 kinds.Message (codes "messages alone"))
    (sample 320 kinds.Trap (codes "trap")) (sample 400 kinds.Barrier (codes "barrier"))
    c.in_ok-push_sample.ensures c.in_ok-push_sample-2.ensures c.in_ok-push_sample-3.ensures c.in_ok-push_sample-4.ensures)
    c.push_sample-5.ensures

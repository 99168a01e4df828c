use Rattle.std.proofs.Common.{◌∙◌, ◌++◌, ap, ap₂, sym}
use Rattle.std.proofs.lemmas.List.Sums.{fold_more}
use Rattle.lrc_chart_model.specs.declared.picture.Arrow.{Arrow}
use Rattle.lrc_chart_svg.specs.declared.flow.Flow.{Flow}
use Rattle.lrc_chart_svg.specs.Flow.{label_flow, words_flow}
use Rattle.lrc_chart_svg.specs.Marks.{all_marks}
use Rattle.lrc_chart_svg.specs.Shown.{kind_behind, kind_mark}
use Rattle.lrc_chart_svg.proofs.Painted.{each_marked}
use Rattle.lrc_chart_svg.proofs.rows.push_kinds.Goals as goal

pub loop-arrow-preserved : goal.loop-arrow-preserved
loop-arrow-preserved c =
    let sheet = c.args.sheet in
    let number = c.args.number in
    let row = c.args.row.now in
    let arrows = c.args.arrows.now in
    let index = c.loop-arrow.arrow-index in
    let arrow = c.arrow-item.result in
    let before = all_marks c.loop-arrow.inside.items in
    record {
      flow =
          c.behind_label-flow.ensures
          ∙ ap₂ (λ (f : Flow) (a : Arrow). label_flow sheet.room number f a) c.loop-arrow.invariant.flow c.arrow-item.is
          ∙ sym (fold_more (label_flow sheet.room number) (words_flow sheet.room row) arrows index arrow c.loop-arrow-test.true);
      marks =
          each_marked (kind_mark sheet.left sheet.top sheet.room number row arrows) arrows index arrow (all_marks c.args.inside.now.items) before
          (all_marks c.push_kind.new.inside.items) c.loop-arrow-test.true c.arrow-item.is c.loop-arrow.invariant.marks
          (c.in_ok-push_kind.ensures
          ∙ ap (λ (f : Flow). before ++ kind_behind sheet.left sheet.top sheet.room number f arrow) c.loop-arrow.invariant.flow);
    }

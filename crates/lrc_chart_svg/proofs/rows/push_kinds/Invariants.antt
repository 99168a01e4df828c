use Rattle.std.proofs.Common.{◌≡◌, ◌++◌, take}
use Rattle.lrc_text.specs.Each.{each}
use Rattle.lrc_chart_svg.specs.Flow.{kinds_flow}
use Rattle.lrc_chart_svg.specs.Marks.{all_marks}
use Rattle.lrc_chart_svg.specs.Shown.{kind_mark}
use Rattle.lrc_chart_svg.proofs.rows.push_kinds.Given as goal

abbrev pub invariant-loop-arrow : goal.invariant-loop-arrow
invariant-loop-arrow l = record {
  flow : l.flow ≡ kinds_flow l.sheet.room l.number l.row (take l.arrow-index l.arrows);
  marks : all_marks l.inside.items
      ≡ all_marks l.initial.inside.items
      ++ each (kind_mark l.sheet.left l.sheet.top l.sheet.room l.number l.row l.arrows) (take l.arrow-index l.arrows);
}

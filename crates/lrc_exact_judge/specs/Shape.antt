-- The shape of the exact memory that a layout says.
use Rattle.lrc_exact.specs.Rule.{Shape}
use Rattle.lrc_exact_judge.specs.declared.layout.Layout.{Layout}

abbrev pub shape_of : Layout → Shape
shape_of layout = record { nodes = layout.nodes; size = layout.page_words; collect = layout.collect }

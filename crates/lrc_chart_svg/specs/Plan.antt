-- Where columns and rows stand.
use Rattle.std.specs.Prelude.{List}
use Rattle.lrc_chart_model.specs.declared.picture.Picture.{Picture}
use Rattle.lrc_chart_svg.specs.declared.frames.Frame.{Frame}
use Rattle.lrc_chart_svg.specs.declared.lanes.Lane.{Lane}
use Rattle.lrc_chart_svg.specs.declared.layout.Layout.{Layout}
use Rattle.lrc_chart_svg.specs.Frames.{frames_of}
use Rattle.lrc_chart_svg.specs.Widths.{lanes_of}

pub record Plan : Type 0 where
  pub lanes : List Lane
  pub frames : List Frame

-- the columns and rows of a layout
abbrev pub plan_in : Layout → Plan
plan_in layout = record { lanes = layout.lanes.items; frames = layout.frames.items }

-- those of a picture
abbrev pub plan_of : Picture → Plan
plan_of picture = record { lanes = lanes_of picture; frames = frames_of picture }

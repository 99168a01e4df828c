-- The exact memory of runs with a setting.
use Rattle.lrc_page.specs.Page.{words_of}
use Rattle.lrc_setting.specs.declared.setting.Setting.{Setting}
use Rattle.lrc_exact.specs.Rule.{Shape}

-- its shape
abbrev pub shape_in : Setting → Shape
shape_in setting = record { nodes = setting.nodes.count; size = words_of setting.size; collect = setting.collect }

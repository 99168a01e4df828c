-- The options of a run's nodes, by its setting.
use Rattle.lrc_protocol.specs.Node.{OptionsRecord}
use Rattle.lrc_setting.specs.declared.setting.Setting.{Setting}

-- how the nodes go
abbrev pub options_of : Setting → OptionsRecord
options_of setting = record { steps = setting.steps.count; collect = setting.collect; first = setting.first; size = setting.size }

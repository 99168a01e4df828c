use Rattle.lrc_node_laws.proofs.Reach.{come}
use Rattle.lrc_node_laws.proofs.laws.setting_and_options_stay.Goals as goal

pub returns : goal.returns
returns c = λ program nodes options me l leads.
    ((come program nodes options me leads.among l leads).tokened.shape.setting, (come program nodes options me leads.among l leads).tokened.shape.options)

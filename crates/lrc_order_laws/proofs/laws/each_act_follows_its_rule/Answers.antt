use Rattle.lrc_order_laws.proofs.Rules.{all_ruled}
use Rattle.lrc_order_laws.proofs.laws.each_act_follows_its_rule.Goals as goal

pub returns : goal.returns
returns c = λ program nodes options events world j node deed e does. (all_ruled program nodes options events world e).ruled j node deed does

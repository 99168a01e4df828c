use Rattle.lrc_exact.specs.Rule.{exact_rule}
use Rattle.lrc_exact.proofs.LocalRules.{one_list, states_exist}
use Rattle.lrc_exact.proofs.laws.the_rule_determines_the_states.Goals as goal

pub returns-clause-exist : goal.returns-clause-exist
returns-clause-exist c = λ shape run in_range. states_exist (exact_rule shape) shape.nodes run in_range

pub returns-clause-one : goal.returns-clause-one
returns-clause-one c = λ shape run states others a b. one_list (exact_rule shape) shape.nodes run states others a b

use Rattle.lrc_exact.specs.Rule.{exact_rule}
use Rattle.lrc_exact.proofs.LocalRules.{keeps-last, keeps-more, keeps-prefix}
use Rattle.lrc_exact.proofs.laws.states_on_a_prefix.Goals as goal

pub returns-clause-prefix : goal.returns-clause-prefix
returns-clause-prefix c = λ shape run more states later stated keeps. keeps-prefix run more states later stated (exact_rule shape) shape.nodes keeps

pub returns-clause-one_more : goal.returns-clause-one_more
returns-clause-one_more c = λ shape run states act state keeps. (
  λ all. keeps-last (exact_rule shape) shape.nodes run states act state keeps all,
  λ (in_range, is). keeps-more (exact_rule shape) shape.nodes run states act state keeps in_range is,
)

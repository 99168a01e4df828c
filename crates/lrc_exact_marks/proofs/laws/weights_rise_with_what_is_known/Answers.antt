use Rattle.lrc_exact_marks.proofs.Weights.{rises, weighs_less}
use Rattle.lrc_exact_marks.proofs.laws.weights_rise_with_what_is_known.Goals as goal

pub returns-clause-known : goal.returns-clause-known
returns-clause-known c = λ shape run states j node deed state keeps does stands ws other index i p m some known closing some' known'.
    weighs_less shape run states keeps ws j node deed state does stands other index i p m some known closing some' known'

pub returns-clause-one_node : goal.returns-clause-one_node
returns-clause-one_node c = λ shape run states j node deed state keeps does stands ws other index later some less known.
    rises shape run states keeps ws j node deed state does stands other index later some less known

use Rattle.lrc_lint_warned.proofs.Derived.{nodes_stand}
use Rattle.lrc_lint_warned.proofs.laws.parts_stand_at_their_tokens.Goals as goal

pub returns : goal.returns
returns c = λ p tokens d. nodes_stand p tokens d

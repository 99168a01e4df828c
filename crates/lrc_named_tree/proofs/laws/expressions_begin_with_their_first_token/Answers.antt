use Rattle.lrc_named_tree.proofs.Begins.{begins_with_first}
use Rattle.lrc_named_tree.proofs.laws.expressions_begin_with_their_first_token.Goals as goal

pub returns : goal.returns
returns c = begins_with_first

use Rattle.lrc_named_tree.proofs.Closes.{ends_with_last}
use Rattle.lrc_named_tree.proofs.laws.expressions_end_with_their_last_token.Goals as goal

pub returns : goal.returns
returns c = ends_with_last

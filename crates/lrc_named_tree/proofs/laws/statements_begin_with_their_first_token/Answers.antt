use Rattle.lrc_named_tree.proofs.Begins.{statement_begins_with_first}
use Rattle.lrc_named_tree.proofs.laws.statements_begin_with_their_first_token.Goals as goal

pub returns : goal.returns
returns c = statement_begins_with_first

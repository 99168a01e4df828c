use Rattle.lrc_weave.proofs.Spellings.{given_bytes}
use Rattle.lrc_weave.proofs.laws.the_post_was_given_what_nodes_write.Goals as goal

pub returns : goal.returns
returns c = given_bytes

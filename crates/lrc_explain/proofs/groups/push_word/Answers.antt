use Rattle.lrc_explain.specs.Groups.{word_words}
use Rattle.lrc_explain.proofs.groups.push_word.Goals as goal

pub returns : goal.returns
unfolding word_words
returns c = c.push_numbered_word.ensures.ok

use Rattle.lrc_exact_copies.proofs.Puts.{word-puts}
use Rattle.lrc_exact_copies.proofs.copy.put_word.Goals as goal

pub returns : goal.returns
returns c = word-puts c.args.words.now c.insert.new.self c.args.word c.args.held c.in_ok-insert.ensures.updates

use Rattle.lrc_exact_copies.proofs.Puts.{look-puts}
use Rattle.lrc_exact_copies.proofs.copy.put_look.Goals as goal

pub returns : goal.returns
returns c = look-puts c.args.looks.now c.insert.new.self c.args.page c.args.look c.in_ok-insert.ensures.updates

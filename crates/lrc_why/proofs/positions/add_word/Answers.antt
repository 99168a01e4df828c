use Rattle.lrc_judge.proofs.Additions.{adds-same}
use Rattle.lrc_why_chains.specs.Writes.{IsWrite}
use Rattle.lrc_why.proofs.positions.add_word.Goals as goal

pub returns-in-None : goal.returns-in-None
returns-in-None c = adds-same c.args.words.now.items (λ word. IsWrite c.args.acts.now word c.args.k) (λ w h. c.in-None.ensures w h)

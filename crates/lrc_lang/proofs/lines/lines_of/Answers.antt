use Rattle.lrc_lang.proofs.Beginnings.{lines_given}
use Rattle.lrc_lang.proofs.lines.lines_of.Goals as goal

pub returns : goal.returns
returns c = λ p is. lines_given (λ lines. lines.items) c.args.text.now c.marked.result c.marked.ensures p is

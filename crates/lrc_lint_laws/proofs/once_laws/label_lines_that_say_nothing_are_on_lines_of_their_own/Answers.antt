use Rattle.lrc_lint_laws.proofs.Idle.{lines_once}
use Rattle.lrc_lint_laws.proofs.once_laws.label_lines_that_say_nothing_are_on_lines_of_their_own.Goals as goal

pub returns : goal.returns
returns c = λ words locks lines i j one other is also same. lines_once words locks lines i j one other is also same

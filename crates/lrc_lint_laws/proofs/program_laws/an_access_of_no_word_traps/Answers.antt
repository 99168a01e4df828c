use Rattle.lrc_lint_laws.proofs.Traps.{no_word_traps}
use Rattle.lrc_lint_laws.proofs.program_laws.an_access_of_no_word_traps.Goals as goal

pub returns : goal.returns
returns c = λ program tokens at word has. no_word_traps program tokens at word has

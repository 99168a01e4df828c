use Rattle.lrc_lint_laws.proofs.Together.{found_once}
use Rattle.lrc_lint_laws.proofs.once_laws.no_warning_is_found_twice.Goals as goal

pub returns : goal.returns
returns c = λ program tokens is_text. found_once program tokens is_text

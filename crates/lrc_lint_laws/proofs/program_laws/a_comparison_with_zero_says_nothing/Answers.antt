use Rattle.lrc_lint_laws.proofs.Traps.{below_zero_says}
use Rattle.lrc_lint_laws.proofs.program_laws.a_comparison_with_zero_says_nothing.Goals as goal

pub returns : goal.returns
returns c = λ program tokens at always is_text has. below_zero_says program tokens is_text at always has

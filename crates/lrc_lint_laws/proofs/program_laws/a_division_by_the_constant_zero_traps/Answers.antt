use Rattle.lrc_lint_laws.proofs.Traps.{divides_by_zero}
use Rattle.lrc_lint_laws.proofs.program_laws.a_division_by_the_constant_zero_traps.Goals as goal

pub returns : goal.returns
returns c = λ program tokens at is_text has. divides_by_zero program tokens is_text at has

use Rattle.lrc_lint_laws.proofs.Traps.{divides_by_zero}
use Rattle.lrc_lint_laws.proofs.Runs.{traps_in_runs}
use Rattle.lrc_lint_laws.proofs.run_laws.runs_trap_at_a_division_by_the_constant_zero.Goals as goal

pub returns : goal.returns
returns c = λ program tokens at is_text has.
    let (part, from, is_part, trapping) = divides_by_zero program tokens is_text at has in
    (part, from, is_part, traps_in_runs program tokens from _ trapping)

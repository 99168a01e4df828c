use Rattle.lrc_lint_laws.proofs.Traps.{no_lock_traps}
use Rattle.lrc_lint_laws.proofs.Runs.{traps_in_runs_behind}
use Rattle.lrc_lint_laws.proofs.run_laws.runs_trap_at_an_acquire_or_a_release_of_no_lock.Goals as goal

pub returns : goal.returns
returns c = λ program tokens at lock has. traps_in_runs_behind program tokens at _ (no_lock_traps program tokens at lock has)

use Rattle.lrc_lint_laws.proofs.Traps.{not_held_traps}
use Rattle.lrc_lint_laws.proofs.Runs.{traps_in_runs}
use Rattle.lrc_lint_laws.proofs.run_laws.runs_trap_at_a_release_of_a_lock_that_is_not_held.Goals as goal

pub returns : goal.returns
returns c = λ program tokens at lock has. traps_in_runs program tokens at _ (λ nodes. (not_held_traps program tokens at lock has nodes).1)

use Rattle.lrc_lint_laws.proofs.Traps.{no_lock_traps}
use Rattle.lrc_lint_laws.proofs.program_laws.an_acquire_or_a_release_of_no_lock_traps.Goals as goal

pub returns : goal.returns
returns c = λ program tokens at lock has. no_lock_traps program tokens at lock has

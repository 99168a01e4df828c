use Rattle.lrc_lint_laws.proofs.Traps.{not_held_traps}
use Rattle.lrc_lint_laws.proofs.program_laws.a_lock_that_is_not_held_is_not_held.Goals as goal

pub returns : goal.returns
returns c = λ program tokens at lock has nodes. not_held_traps program tokens at lock has nodes

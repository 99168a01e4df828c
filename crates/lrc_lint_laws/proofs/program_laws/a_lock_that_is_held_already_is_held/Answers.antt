use Rattle.lrc_lint_laws.proofs.Traps.{held_already_traps}
use Rattle.lrc_lint_laws.proofs.program_laws.a_lock_that_is_held_already_is_held.Goals as goal

pub returns : goal.returns
returns c = λ program tokens at lock has nodes. held_already_traps program tokens at lock has nodes

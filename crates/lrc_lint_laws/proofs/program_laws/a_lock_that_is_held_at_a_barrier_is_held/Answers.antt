use Rattle.lrc_lint_laws.proofs.Traps.{held_at_a_barrier}
use Rattle.lrc_lint_laws.proofs.program_laws.a_lock_that_is_held_at_a_barrier_is_held.Goals as goal

pub returns : goal.returns
returns c = λ program tokens at lock has nodes acts node here. held_at_a_barrier program tokens at lock has nodes acts node here

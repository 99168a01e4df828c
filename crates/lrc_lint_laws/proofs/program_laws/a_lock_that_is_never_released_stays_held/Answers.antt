use Rattle.lrc_lint_laws.proofs.Absent.{unreleased}
use Rattle.lrc_lint_laws.proofs.program_laws.a_lock_that_is_never_released_stays_held.Goals as goal

pub returns : goal.returns
returns c = λ program tokens at lock is_text has nodes acts i node follows does. unreleased program tokens is_text lock at has nodes acts i node follows does

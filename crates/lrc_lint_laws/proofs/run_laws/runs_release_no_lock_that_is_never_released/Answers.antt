use Rattle.lrc_lint_laws.proofs.Absent.{unreleased}
use Rattle.lrc_lint_laws.proofs.Runs.{follows}
use Rattle.lrc_lint_laws.proofs.run_laws.runs_release_no_lock_that_is_never_released.Goals as goal

pub returns : goal.returns
returns c = λ program tokens at lock is_text has nodes options events world runs i is.
    unreleased program tokens is_text lock at has nodes world.acts i is.0 (follows program nodes options events world runs) is.1

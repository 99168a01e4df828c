use Rattle.std.proofs.Common.{map}
use Rattle.lrc_lint_warned.specs.Found.{statement_seen}
use Rattle.lrc_lint_warned.specs.Locks.{never_released_of}
use Rattle.lrc_lint_warned.proofs.Lists.{count_more}
use Rattle.lrc_lint_warned.proofs.locks.never_released.Goals as goal

pub loop-lock-preserved : goal.loop-lock-preserved
loop-lock-preserved c =
    count_more (never_released_of (map statement_seen c.args.statements.now)) c.loop-lock.lock _ _ _ c.loop-lock.invariant c.in_ok-never_released_of.ensures

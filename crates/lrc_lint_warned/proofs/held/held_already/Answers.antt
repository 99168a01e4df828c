use Rattle.std.proofs.Common.{[], ℕ, map}
use Rattle.lrc_program.specs.Statements.{block_of}
use Rattle.lrc_lint_warned.specs.Found.{statement_seen}
use Rattle.lrc_lint_warned.specs.Held.{held_already_at, paths, with_path}
use Rattle.lrc_lint_warned.proofs.Lists.{count_more}
use Rattle.lrc_lint_warned.proofs.held.held_already.Goals as goal

pub loop-lock-preserved : goal.loop-lock-preserved
loop-lock-preserved c =
    count_more (λ (lock : ℕ). with_path (held_already_at lock) (map statement_seen c.args.statements.now) (paths [] (block_of c.args.block.now))) c.loop-lock.lock
    _ _ _ c.loop-lock.invariant c.in_ok-held_already_of.ensures

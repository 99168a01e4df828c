-- What was added so far.
use Rattle.std.proofs.Common.{◌≡◌}
use Rattle.lrc_state_text.specs.Tokens.{locks_shown}
use Rattle.lrc_state_text.proofs.locks.locks_shown.Given as goal

abbrev pub invariant-loop-lock : goal.invariant-loop-lock
invariant-loop-lock l = l.shown.items ≡ locks_shown l.clock l.lock

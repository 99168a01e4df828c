-- What was added so far.
use Rattle.std.proofs.Common.{◌≡◌, ◌++◌, take}
use Rattle.lrc_state_text.specs.Json.{later}
use Rattle.lrc_state_text.specs.Tokens.{lock_text}
use Rattle.lrc_state_text.proofs.locks.push_later.Given as goal

abbrev pub invariant-loop-lock : goal.invariant-loop-lock
invariant-loop-lock l = l.text.items ≡ l.fn.text.items ++ later (lock_text l.clock) (take l.lock-index l.locks)

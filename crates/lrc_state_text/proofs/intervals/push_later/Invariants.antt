-- What was added so far.
use Rattle.std.proofs.Common.{◌≡◌, ◌++◌, take}
use Rattle.lrc_state_text.specs.Json.{later}
use Rattle.lrc_state_text.specs.Intervals.{interval_text}
use Rattle.lrc_state_text.proofs.intervals.push_later.Given as goal

abbrev pub invariant-loop-one : goal.invariant-loop-one
invariant-loop-one l = l.text.items ≡ l.fn.text.items ++ later (interval_text l.size) (take l.one-index l.stored)

-- What was added so far.
use Rattle.std.proofs.Common.{◌≡◌, ◌++◌, take}
use Rattle.lrc_state_text.specs.Json.{later}
use Rattle.lrc_state_text.specs.Needs.{need_text}
use Rattle.lrc_state_text.proofs.needs.push_later_needs.Given as goal

abbrev pub invariant-loop-need : goal.invariant-loop-need
invariant-loop-need l = l.text.items ≡ l.fn.text.items ++ later need_text (take l.need-index l.needs)

-- What was added so far.
use Rattle.std.proofs.Common.{◌≡◌, ◌++◌, take}
use Rattle.lrc_state_text.specs.Json.{later}
use Rattle.lrc_state_text.specs.Needs.{name_text}
use Rattle.lrc_state_text.proofs.needs.push_later_names.Given as goal

abbrev pub invariant-loop-name : goal.invariant-loop-name
invariant-loop-name l = l.text.items ≡ l.fn.text.items ++ later name_text (take l.name-index l.names)

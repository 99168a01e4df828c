-- What was added so far.
use Rattle.std.proofs.Common.{◌≡◌, ◌++◌, take}
use Rattle.lrc_acts_text.specs.Json.{with_commas}
use Rattle.lrc_state_text.proofs.json.push_all.Given as goal

abbrev pub invariant-loop-place : goal.invariant-loop-place
invariant-loop-place l = l.text.items ≡ l.fn.text.items ++ with_commas (take l.place l.numbers)

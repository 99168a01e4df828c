use Rattle.std.proofs.Common.{◌≡◌, ◌++◌, take}
use Rattle.lrc_acts_text.specs.Json.{with_commas}
use Rattle.lrc_acts_text.proofs.json.push_entries.Given as goal

-- the entries so far
abbrev pub invariant-loop-node : goal.invariant-loop-node
invariant-loop-node l = l.text.items ≡ l.initial.text.items ++ with_commas (take l.node l.time)

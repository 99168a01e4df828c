-- What was added so far.
use Rattle.std.proofs.Common.{◌≡◌, ◌++◌, take}
use Rattle.std.specs.Prelude.{map}
use Rattle.lrc_labels.specs.Reading.{label_seen}
use Rattle.lrc_why_lines.specs.Racing.{later_locks}
use Rattle.lrc_why_lines.proofs.opponents.push_later_locks.Given as goal

abbrev pub invariant-loop-lock : goal.invariant-loop-lock
invariant-loop-lock l = l.text.items ≡ l.fn.text.items ++ later_locks (map label_seen l.labels) (take l.lock-index l.locks)

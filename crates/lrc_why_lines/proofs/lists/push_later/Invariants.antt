-- What was added so far.
use Rattle.std.proofs.Common.{◌≡◌, ◌++◌, take}
use Rattle.lrc_why_lines.specs.Lists.{later_text}
use Rattle.lrc_why_lines.proofs.lists.push_later.Given as goal

abbrev pub invariant-loop-number : goal.invariant-loop-number
invariant-loop-number l = l.text.items ≡ l.fn.text.items ++ later_text l.comma (take l.number-index l.numbers)

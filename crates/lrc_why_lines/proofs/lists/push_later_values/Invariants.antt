-- What was added so far.
use Rattle.std.proofs.Common.{◌≡◌, ◌++◌, take}
use Rattle.lrc_why_lines.specs.Lists.{later_text}
use Rattle.std.specs.Prelude.{codes}
use Rattle.lrc_why_lines.proofs.lists.push_later_values.Given as goal

abbrev pub invariant-loop-value : goal.invariant-loop-value
invariant-loop-value l = l.text.items ≡ l.fn.text.items ++ later_text (codes ", ") (take l.value-index l.values)

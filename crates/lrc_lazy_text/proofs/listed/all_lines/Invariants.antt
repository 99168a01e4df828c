-- The text so far has the lines so far.
use Rattle.std.proofs.Common.{◌≡◌, ◌++◌, take}
use Rattle.lrc_text.specs.Parts.{whole_text}
use Rattle.lrc_lazy_text.specs.Listed.{marked_lines}
use Rattle.lrc_lazy_text.proofs.listed.all_lines.Given as goal

abbrev pub invariant-loop-outcome : goal.invariant-loop-outcome
invariant-loop-outcome l = whole_text l.parts.items ≡ l.fn.head.items ++ marked_lines (take l.outcome-index l.told)

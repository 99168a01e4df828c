-- What was added so far.
use Rattle.std.proofs.Common.{◌≡◌, ◌++◌, take}
use Rattle.lrc_why_text.specs.Told.{last_lines}
use Rattle.lrc_why_text.proofs.about.push_last_lines.Given as goal

abbrev pub invariant-loop-write : goal.invariant-loop-write
invariant-loop-write l = l.text.items ≡ l.fn.text.items ++ last_lines l.shown (take l.write-index l.writes)

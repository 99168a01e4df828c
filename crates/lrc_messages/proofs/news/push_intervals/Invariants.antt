use Rattle.std.proofs.Common.{◌≡◌, ◌++◌, take}
use Rattle.std.specs.Prelude.{codes}
use Rattle.lrc_messages.specs.Lists.{separated}
use Rattle.lrc_messages.specs.MessageText.{interval_text}
use Rattle.lrc_messages.proofs.news.push_intervals.Given as goal

-- the items so far
abbrev pub invariant-loop-place : goal.invariant-loop-place
invariant-loop-place l = l.text.items ≡ l.initial.text.items ++ separated (codes " ") interval_text (take l.place l.intervals)

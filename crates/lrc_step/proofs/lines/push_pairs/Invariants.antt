use Rattle.std.proofs.Common.{◌≡◌, ◌++◌, take}
use Rattle.lrc_step.specs.Lines.{pairs_text}
use Rattle.lrc_step.proofs.lines.push_pairs.Given as goal

-- the pairs so far
abbrev pub invariant-loop-place : goal.invariant-loop-place
invariant-loop-place l = l.text.items ≡ l.initial.text.items ++ pairs_text (take l.place l.pairs)

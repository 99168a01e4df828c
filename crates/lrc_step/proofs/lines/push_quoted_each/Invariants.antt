use Rattle.std.proofs.Common.{◌≡◌, ◌++◌, map, take}
use Rattle.lrc_step.specs.Lines.{quoted_each}
use Rattle.lrc_step.proofs.lines.push_quoted_each.Given as goal

-- the texts so far
abbrev pub invariant-loop-place : goal.invariant-loop-place
invariant-loop-place l = l.text.items ≡ l.initial.text.items ++ quoted_each (take l.place (map (λ line. line.now) l.lines))

-- The lines of the groups so far.
use Rattle.std.proofs.Common.{◌≡◌, ◌++◌, take}
use Rattle.lrc_text.specs.Each.{each}
use Rattle.lrc_step.specs.RaceLines.{group_line}
use Rattle.lrc_step.proofs.races.push_groups.Given as goal

abbrev pub invariant-loop-place : goal.invariant-loop-place
invariant-loop-place l = l.text.items ≡ l.initial.text.items ++ each (group_line l.acts l.lines l.pairs) (take l.place l.leaders)

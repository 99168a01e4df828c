-- The lines so far are those of the outcomes so far.
use Rattle.std.proofs.Common.{◌≡◌, map, take}
use Rattle.lrc_lazy_text.specs.Listed.{lines_with, told_pair}
use Rattle.lrc_lazy_text.proofs.listed.sorted_lines.Given as goal

abbrev pub invariant-loop-place : goal.invariant-loop-place
invariant-loop-place l = map told_pair l.told.items ≡ lines_with l.nodes (take l.place l.outcomes) (take l.place l.seeds)

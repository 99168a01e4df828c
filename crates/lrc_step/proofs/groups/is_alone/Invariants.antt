-- None of the first pairs so far.
use Rattle.std.proofs.Common.{◌≡◌, false, take}
use Rattle.std.specs.List.{list_any}
use Rattle.lrc_step.specs.RaceLines.{is_beside}
use Rattle.lrc_step.proofs.groups.is_alone.Given as goal

abbrev pub invariant-loop-leader : goal.invariant-loop-leader
invariant-loop-leader l = list_any (λ leader. is_beside l.acts l.lines leader l.pair) (take l.leader-index l.leaders) ≡ false

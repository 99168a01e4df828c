-- Those of the pairs so far.
use Rattle.std.proofs.Common.{◌≡◌, take}
use Rattle.std.specs.Prelude.{filter}
use Rattle.lrc_step.specs.RaceLines.{is_alone}
use Rattle.lrc_step.proofs.groups.alone.Given as goal

abbrev pub invariant-loop-pair : goal.invariant-loop-pair
invariant-loop-pair l = l.found.items ≡ filter (is_alone l.acts l.lines l.leaders) (take l.pair-index l.pairs)

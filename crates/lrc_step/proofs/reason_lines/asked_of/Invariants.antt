-- What is asked of those so far.
use Rattle.std.proofs.Common.{◌≡◌, map, take}
use Rattle.lrc_step.specs.ReasonLines.{asked_alone}
use Rattle.lrc_step.proofs.reason_lines.asked_of.Given as goal

abbrev pub invariant-loop-position : goal.invariant-loop-position
invariant-loop-position l = l.asked.items ≡ map asked_alone (take l.position-index l.positions)

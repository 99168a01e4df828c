-- None of the nodes so far has an act that races with it.
use Rattle.std.proofs.Common.{◌<◌, ℕ}
use Rattle.lrc_why.specs.Positions.{IsRacing}
use Rattle.lrc_step.proofs.told.is_racer.Given as goal

abbrev pub invariant-loop-node : goal.invariant-loop-node
invariant-loop-node l = (node other : ℕ) → node < l.node → ¬ IsRacing l.acts node l.position other

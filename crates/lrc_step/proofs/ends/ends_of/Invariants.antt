use Rattle.std.proofs.Common.{◌≡◌, take}
use Rattle.lrc_step.specs.EndLines.{ends_of}
use Rattle.lrc_step.proofs.ends.ends_of.Given as goal

-- how the nodes so far ended
abbrev pub invariant-loop-node : goal.invariant-loop-node
invariant-loop-node l = l.ends.items ≡ ends_of l.acts (take l.node l.stands)

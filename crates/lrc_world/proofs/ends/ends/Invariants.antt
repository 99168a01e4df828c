use Rattle.std.proofs.Common.{◌≡◌, take}
use Rattle.lrc_world.specs.Ends.{ends_of}
use Rattle.lrc_world.proofs.ends.ends.Given as goal

-- the ends that the acts so far say
abbrev pub invariant-loop-act : goal.invariant-loop-act
invariant-loop-act l = l.ends.items ≡ ends_of l.nodes (take l.act-index l.acts)

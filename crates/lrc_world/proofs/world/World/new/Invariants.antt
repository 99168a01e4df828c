use Rattle.std.proofs.Common.{◌≡◌, map}
use Rattle.std.specs.List.{range_with_len}
use Rattle.lrc_world.specs.World.{fresh_one}
use Rattle.lrc_world.proofs.world.World.new.Given as goal

-- the nodes so far
abbrev pub invariant-loop-me : goal.invariant-loop-me
invariant-loop-me l = l.made.items ≡ map (fresh_one l.code l.nodes l.options) (range_with_len 0 l.me)

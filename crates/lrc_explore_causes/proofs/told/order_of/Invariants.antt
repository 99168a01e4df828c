use Rattle.std.proofs.Common.{◌≡◌, take}
use Rattle.lrc_exec.specs.Follows.{nodes_of_acts}
use Rattle.lrc_explore_causes.proofs.told.order_of.Given as goal

-- the nodes so far
abbrev pub invariant-loop-act : goal.invariant-loop-act
invariant-loop-act l = l.order.items ≡ nodes_of_acts (take l.act-index l.acts)

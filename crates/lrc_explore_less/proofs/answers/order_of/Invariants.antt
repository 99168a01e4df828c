-- The nodes of the acts so far.
use Rattle.std.proofs.Common.{◌≡◌, map, take}
use Rattle.lrc_trace.specs.declared.act.Act.{Act}
use Rattle.lrc_explore_less.proofs.answers.order_of.Given as goal

abbrev pub invariant-loop-act : goal.invariant-loop-act
invariant-loop-act l = l.order.items ≡ map (λ (a : Act). a.node) (take l.act-index l.acts)

use Rattle.std.proofs.Common.{ℕ}
use Rattle.std.specs.Ordering.{nat_cmp}
use Rattle.std.specs.BTreeMap.{get}
use Rattle.lrc_exact.specs.Rule.{keeper_of}
use Rattle.lrc_exact_judge.specs.Keepers.{IsKeeper, known_of}
use Rattle.lrc_exact_judge.proofs.keepers.keepers_of.Given as goal

-- the keepers among the nodes so far
abbrev pub invariant-loop-node : goal.invariant-loop-node
invariant-loop-node l = (page : ℕ) → IsKeeper l.node (keeper_of l.node l.dropped (known_of l.made l.all) page) (get nat_cmp l.keepers page)

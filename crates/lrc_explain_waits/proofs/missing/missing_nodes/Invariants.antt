use Rattle.std.proofs.Common.{◌≡◌, take}
use Rattle.lrc_explain_waits.specs.Missing.{missing_nodes}
use Rattle.lrc_explain_waits.proofs.missing.missing_nodes.Given as goal

-- those among the nodes so far
abbrev pub invariant-loop-node : goal.invariant-loop-node
invariant-loop-node l = l.missing.items ≡ missing_nodes l.number l.me (take l.node l.stands)

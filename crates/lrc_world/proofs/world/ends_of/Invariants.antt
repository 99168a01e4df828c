use Rattle.std.proofs.Common.{◌≡◌, List, take, map}
use Rattle.lrc_protocol.specs.Run.{Logged}
use Rattle.lrc_node.specs.Logged.{sound}
use Rattle.lrc_world.specs.Report.{end_of_logged}
use Rattle.lrc_world.proofs.world.ends_of.Given as goal

-- the ends of the nodes so far
abbrev pub invariant-loop-node : goal.invariant-loop-node
invariant-loop-node l = (all : List Logged) → map (λ node. node.logged) l.nodes ≡ map sound all → l.ends.items ≡ map end_of_logged (take l.node-index all)

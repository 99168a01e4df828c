use Rattle.std.proofs.Common.{◌≡◌, List, false, take, map}
use Rattle.std.specs.List.{list_any}
use Rattle.lrc_protocol.specs.Turn.{is_ready}
use Rattle.lrc_protocol.specs.Run.{Logged}
use Rattle.lrc_node.specs.Logged.{sound}
use Rattle.lrc_world.proofs.world.is_any_ready.Given as goal

-- none of the nodes so far is ready
abbrev pub invariant-loop-node : goal.invariant-loop-node
invariant-loop-node l =
    (all : List Logged) → map (λ node. node.logged) l.nodes ≡ map sound all → list_any (λ (one : Logged). is_ready one.node) (take l.node-index all) ≡ false

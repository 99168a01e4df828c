use Rattle.std.proofs.Common.{◌≡◌, ◌≤◌, map, take}
use Rattle.lrc_store.specs.Nodes.{AreStarts}
use Rattle.lrc_store.specs.Rows.{HaveRoom}
use Rattle.lrc_store.specs.Store.{interval_of}
use Rattle.lrc_store.proofs.Starts.{count_of}
use Rattle.lrc_store.proofs.links.link_nodes.Given as goal

abbrev pub invariant-loop-at : goal.invariant-loop-at
invariant-loop-at l =
    (l.by_node.keys ≡ map (λ stored. stored.node) (take l.at l.arena.entries))
    × (l.by_node.lists ≡ l.initial.by_node.lists)
    × (l.initial.by_node.room ≤ l.by_node.room)
    × AreStarts l.by_node.starts (map interval_of (take l.at l.arena.entries))
    × (l.start ≡ count_of (map interval_of (take l.at l.arena.entries)))
    × HaveRoom l.initial.by_node.lists l.by_node.rows (map (λ stored. stored.node) l.arena.entries)

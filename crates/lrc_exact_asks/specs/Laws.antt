-- How many intervals a node holds, and when it asks for a collection.
use Rattle.std.specs.Prelude.{◌≡◌, ◌+◌, ◌&&◌, Some, length, nat_le}
use Rattle.lrc_time.specs.Time.{weight_of}
use Rattle.lrc_protocol.specs.Node.{Node}
use Rattle.lrc_protocol.specs.Turn.{asks_for_collection}
use Rattle.lrc_node_laws.specs.Reached.{IsReached}
use Rattle.lrc_exact.specs.Rule.{State, asks}

-- A node stores the intervals that its time covers and its collected time does not.
abbrev pub HoldsExactly : Type 0
HoldsExactly = (node : Node) → IsReached node
    → length node.memory.store.entries + weight_of node.memory.collected ≡ weight_of node.locks.time

-- So it asks for a collection exactly where the exact memory does, with the same times.
abbrev pub AsksExactly : Type 0
AsksExactly = (node : Node) (state : State) → IsReached node → state.knows.time ≡ node.locks.time → state.dropped ≡ node.memory.collected
    → asks_for_collection node ≡ (nat_le 1 node.options.collect && asks node.options.collect (Some state))

-- What holds of a node that leaves a collection.
use Rattle.std.specs.Prelude.{◌≡◌, ℕ, ◌<◌, List, Option, Some}
use Rattle.lrc_store.specs.Store.{StoredRecord}
use Rattle.lrc_protocol.specs.Barriers.{Collection, after_collection}
use Rattle.lrc_protocol.specs.Node.{Node, nothing, discard}
use Rattle.lrc_node_laws.specs.Reached.{IsReached}
use Rattle.lrc_exact.specs.Rule.{State, Knowledge, with_learned, collected}
use Rattle.lrc_exact_made.specs.Copies.{shape_of}
use Rattle.lrc_exact_collected.specs.Keepers.{StoresWhatIsKnown}
use Rattle.lrc_exact_collecting.specs.Left.{left_after}
use Rattle.lrc_exact_turns.specs.Stands.{Stands}

-- A reached node waits for the word to discard, where nodes arrived with these states, of which all this is known. It has what a state has
-- that learned what is known and repaired the pages that the node keeps. Then it has, once it has dropped what was collected, what the
-- exact memory has once it has departed, and its base copies have what the collection left.
abbrev pub StandsOnceDiscarded : Type 0
StandsOnceDiscarded = (nodes collect : ℕ) (made : List StoredRecord) (left later : ℕ → ℕ) (all : Knowledge) (arrived : ℕ → Option State) (state : State)
    (node : Node) (collection : Collection) (next : ℕ → ℕ) (known : Knowledge)
    → IsReached node → node.mail.wait ≡ discard collection → all.time ≡ node.locks.time
    → StoresWhatIsKnown node.options.size nodes made node.memory.collected all node.memory.store
    → node.setting.me < nodes → arrived node.setting.me ≡ Some state
    → later ≡ left_after (shape_of nodes node.options.size collect) state.dropped all arrived left
    → Stands node.options.size nodes collect made left later all node.setting.me node.locks.time (discard collection) node.memory state
    → Stands node.options.size nodes collect made later next known node.setting.me node.locks.time nothing
    (after_collection node.setting.me collection.time node.memory)
    (collected (shape_of nodes node.options.size collect) all arrived (with_learned nodes all state))

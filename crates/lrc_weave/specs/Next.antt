-- Whose turn is next.
use Rattle.std.specs.Prelude.{◌≡◌, ℕ, Option, Some, None, List, nat_le, if◌then◌else◌, slice_index_or}
use Rattle.lrc_protocol.specs.Run.{EntryRecord}
use Rattle.lrc_weave.specs.declared.order.Head.{Head}
use Rattle.lrc_weave.specs.Woven.{IsNext, IsUpTo}
use Rattle.lrc_protocol.specs.Follows.{next_entry}

-- the better of the best next turn so far and that of a node with a higher number, if it has one
abbrev pub earlier_of : Option Head → Option ℕ → ℕ → Option Head
earlier_of best None node = best
earlier_of None (Some stamp) node = Some (record { stamp = stamp; node = node })
earlier_of (Some head) (Some stamp) node = if nat_le head.stamp stamp then Some head else Some (record { stamp = stamp; node = node })

-- the stamp of a node's next turn, of a list of the stamps of all nodes' next turns; none where the node has no turn left
abbrev pub stamp_of : List (Option ℕ) → ℕ → Option ℕ
stamp_of stamps n = slice_index_or stamps n None

-- where the next turns of the nodes have these stamps, this node's turn is to stand before those of all others, or none is left
abbrev pub IsFirst : (ℕ → Option ℕ) → Option ℕ → Type 0
IsFirst stamps None = (n : ℕ) → stamps n ≡ None
IsFirst stamps (Some n) = (stamp : ℕ) × (stamps n ≡ Some stamp) × ((m other : ℕ) → stamps m ≡ Some other → IsUpTo stamp n other m)

-- this node's turn is next, or none is left
abbrev pub IsNextOf : List (List EntryRecord) → List ℕ → Option ℕ → Type 0
IsNextOf logs come None = (n : ℕ) → next_entry logs come n ≡ None
IsNextOf logs come (Some n) = (entry : EntryRecord) × IsNext logs come n entry

-- The pages whose copies become invalid at a turn.
use Rattle.std.specs.Prelude.{ℕ, ◌&&◌, Bool, true, false, Option, None, Some, List, [], filter, length, map, slice_get, slice_index_or}
use Rattle.std.specs.List.{range_with_len}
use Rattle.lrc_protocol.specs.Pages.{absent, Copy, copy_at, invalid, is_readable, Memory, valid, written}
use Rattle.lrc_protocol.specs.Run.{Logged}
use Rattle.lrc_replay.specs.Turns.{Turn}

abbrev pub is_invalid : Copy → Bool
is_invalid (valid values) = false
is_invalid (written values twin) = false
is_invalid (invalid values since) = true
is_invalid absent = false

-- A copy that was valid or written is invalid now. One that was invalid before, or absent, does not become so.
abbrev pub becomes_invalid : (before after : Copy) → Bool
becomes_invalid before after = is_readable before && is_invalid after

-- the pages whose copies become so from one state of a node's memory to another, ascending
abbrev pub invalidated : (before after : Memory) → List ℕ
invalidated before after =
    filter (λ page. becomes_invalid (copy_at before page) (copy_at after page)) (range_with_len 0 (length after.copies))

-- those of a node that stood so before a turn
abbrev pub invalidated_from : (before : Option Logged) → (after : Memory) → List ℕ
invalidated_from None after = []
invalidated_from (Some l) after = invalidated l.node.memory after

-- those of the node that makes a turn, from just before it to just after it
abbrev pub invalidated_at : Turn → List ℕ
invalidated_at turn = invalidated_from (slice_get turn.before.nodes turn.node) turn.after.memory

-- ---- as they are found

-- of each page whether the copy may be read; nothing of a node that is not there
abbrev pub readable_in : Memory → List Bool
readable_in memory = map (λ page. is_readable (copy_at memory page)) (range_with_len 0 (length memory.copies))

abbrev pub readable_from : Option Logged → List Bool
readable_from None = []
readable_from (Some l) = readable_in l.node.memory

-- the pages whose copies are invalid and were readable, given of which they were
abbrev pub invalid_since : (before : List Bool) → (after : Memory) → List ℕ
invalid_since before after =
    filter (λ page. slice_index_or before page false && is_invalid (copy_at after page)) (range_with_len 0 (length after.copies))

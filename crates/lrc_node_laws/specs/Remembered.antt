-- The time that a node remembers of a page whose copy became invalid.
use Rattle.std.specs.Prelude.{◌≡◌, ℕ, true, List}
use Rattle.std.specs.List.{list_any}
use Rattle.lrc_time.specs.Time.{Covers}
use Rattle.lrc_store.specs.Store.{intervals_of, is_missing}
use Rattle.lrc_protocol.specs.Pages.{Copy, valid, written, invalid, absent, Memory}

-- It covers what was collected, and is covered by the node's time; and some stored interval that it does not know names the page.
abbrev pub IsBetween : List ℕ → Memory → ℕ → Copy → Type 0
IsBetween time memory page (valid values) = Unit {0}
IsBetween time memory page (written values twin) = Unit {0}
IsBetween time memory page (invalid values since) =
    Covers since memory.collected × Covers time since × (list_any (is_missing page since) (intervals_of memory.store) ≡ true)
IsBetween time memory page absent = Unit {0}

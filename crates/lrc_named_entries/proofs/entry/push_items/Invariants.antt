-- The entries of the items so far.
use Rattle.std.proofs.Common.{◌≡◌, ◌++◌, map, take}
use Rattle.lrc_named_tree.specs.View.{place_of}
use Rattle.lrc_named_entries.specs.Entry.{item_entry}
use Rattle.lrc_named_entries.specs.View.{entry_seen}
use Rattle.lrc_named_entries.proofs.entry.push_items.Given as goal

abbrev pub invariant-loop-item : goal.invariant-loop-item
invariant-loop-item l =
    map entry_seen l.entries.items ≡ map entry_seen l.fn.entries.items ++ map (item_entry l.sort) (map place_of (take l.item-index l.items))

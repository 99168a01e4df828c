-- The entries of the declarations so far.
use Rattle.std.proofs.Common.{◌≡◌, map, take}
use Rattle.std.specs.List.{flat_map}
use Rattle.lrc_named_tree.specs.View.{declaration_of}
use Rattle.lrc_named_entries.specs.Entry.{entries_in}
use Rattle.lrc_named_entries.specs.View.{entry_seen}
use Rattle.lrc_named_entries.proofs.entry.entries_of.Given as goal

abbrev pub invariant-loop-declaration : goal.invariant-loop-declaration
invariant-loop-declaration l =
    map entry_seen l.entries.items ≡ flat_map entries_in (map declaration_of (take l.declaration-index l.declarations))

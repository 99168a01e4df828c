-- No entry so far has the name.
use Rattle.std.proofs.Common.{◌≡◌, None, map, take}
use Rattle.std.specs.List.{find}
use Rattle.lrc_named_entries.specs.View.{entry_seen}
use Rattle.lrc_named_name_hints.specs.Hints.{is_entry}
use Rattle.lrc_named_name_hints.proofs.hints.count_of.Given as goal

abbrev pub invariant-loop-entry : goal.invariant-loop-entry
invariant-loop-entry l = find (is_entry l.name) (map entry_seen (take l.entry-index l.seen.entries.now)) ≡ None

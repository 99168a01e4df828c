-- No entry so far declares the name before the token.
use Rattle.std.proofs.Common.{◌≡◌, false, map, take}
use Rattle.std.specs.List.{list_any}
use Rattle.lrc_named_entries.specs.View.{entry_seen}
use Rattle.lrc_named_name_hints.specs.Hints.{is_declared_behind}
use Rattle.lrc_named_name_hints.proofs.near.is_declared_before.Given as goal

abbrev pub invariant-loop-entry : goal.invariant-loop-entry
invariant-loop-entry l = list_any (is_declared_behind l.seen.at l.name) (map entry_seen (take l.entry-index l.seen.entries.now)) ≡ false

-- All entries so far end before the token.
use Rattle.std.proofs.Common.{◌≡◌, true, map, take}
use Rattle.std.specs.List.{list_all}
use Rattle.lrc_named_entries.specs.View.{entry_seen}
use Rattle.lrc_named_name_hints.specs.Hints.{ends_before}
use Rattle.lrc_named_name_hints.proofs.near.is_in_statement.Given as goal

abbrev pub invariant-loop-entry : goal.invariant-loop-entry
invariant-loop-entry l = list_all (ends_before l.seen.at) (map entry_seen (take l.entry-index l.seen.entries.now)) ≡ true

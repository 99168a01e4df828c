-- No entry so far is an earlier place of the name.
use Rattle.std.proofs.Common.{◌≡◌, None, map, take}
use Rattle.std.specs.List.{find}
use Rattle.lrc_named_entries.specs.View.{entry_seen}
use Rattle.lrc_named_name_hints.specs.Hints.{stood}
use Rattle.lrc_named_name_hints.proofs.hints.earlier_entry.Given as goal

abbrev pub invariant-loop-entry : goal.invariant-loop-entry
invariant-loop-entry l = find (λ e. stood l.seen.at l.name e.name) (map entry_seen (take l.entry-index l.seen.entries.now)) ≡ None

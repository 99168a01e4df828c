-- The warnings of the core so far were added.
use Rattle.std.proofs.Common.{◌≡◌, ◌++◌, take}
use Rattle.std.specs.List.{flat_map}
use Rattle.lrc_named_warnings.specs.Context.{context_seen}
use Rattle.lrc_named_warnings.specs.Notes.{warned_notes}
use Rattle.lrc_named_warnings.proofs.notes.put_warned.Given as goal

abbrev pub invariant-loop-warning : goal.invariant-loop-warning
invariant-loop-warning l = l.notes.items ≡ l.fn.notes.items ++ flat_map (warned_notes (context_seen l.context)) (take l.warning-index l.warned)

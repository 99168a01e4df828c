-- The unused names so far were added.
use Rattle.std.proofs.Common.{◌≡◌, ◌++◌, map}
use Rattle.std.specs.List.{range_with_len}
use Rattle.lrc_named_entries.specs.View.{entry_seen}
use Rattle.lrc_named_warnings.specs.Notes.{unused_note}
use Rattle.lrc_named_warnings.proofs.notes.put_unused.Given as goal

abbrev pub invariant-loop-i : goal.invariant-loop-i
invariant-loop-i l = l.notes.items ≡ l.fn.notes.items ++ map (unused_note l.spots (map entry_seen l.unused)) (range_with_len 0 l.i)

-- The loops so far were added.
use Rattle.std.proofs.Common.{◌≡◌, ◌++◌, map, take}
use Rattle.lrc_named_warnings.specs.Notes.{loop_note}
use Rattle.lrc_named_warnings.proofs.notes.put_loops.Given as goal

abbrev pub invariant-loop-token : goal.invariant-loop-token
invariant-loop-token l = l.notes.items ≡ l.fn.notes.items ++ map (loop_note l.spots) (take l.token-index l.loops)

-- The notes of the nodes so far.
use Rattle.std.proofs.Common.{◌≡◌}
use Rattle.lrc_orders.specs.Notes.{notes_from}
use Rattle.lrc_explore.proofs.notes.notes_of.Given as goal

abbrev pub invariant-loop-node : goal.invariant-loop-node
invariant-loop-node l = l.notes.items ≡ notes_from 0 l.node l.acts

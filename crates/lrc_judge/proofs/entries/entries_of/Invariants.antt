-- The entries of the positions so far are there.
use Rattle.std.proofs.Common.{[]}
use Rattle.lrc_judge.specs.Adding.{Adds}
use Rattle.lrc_judge.proofs.Additions.{IsBelow}
use Rattle.lrc_judge.proofs.Entering.{IsEntryAt}
use Rattle.lrc_judge.proofs.entries.entries_of.Given as goal

abbrev pub invariant-loop-position : goal.invariant-loop-position
invariant-loop-position l = Adds [] l.entries.items (IsBelow (IsEntryAt l.acts l.told) l.position)

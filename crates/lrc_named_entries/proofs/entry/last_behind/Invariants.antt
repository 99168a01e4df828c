-- What is left of the sizes goes on from the last token so far.
use Rattle.std.proofs.Common.{◌≡◌, drop}
use Rattle.lrc_named_tree.specs.View.{expressions_of}
use Rattle.lrc_named_entries.specs.Entry.{last_behind}
use Rattle.lrc_named_entries.proofs.entry.last_behind.Given as goal

abbrev pub invariant-loop-size : goal.invariant-loop-size
invariant-loop-size l = last_behind l.before (expressions_of l.sizes) ≡ last_behind l.last (expressions_of (drop l.size-index l.sizes))

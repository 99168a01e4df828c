-- What is left is added.
use Rattle.std.proofs.Common.{◌≡◌, ◌+◌, map, drop}
use Rattle.lrc_named_names.specs.View.{entry_of}
use Rattle.lrc_named_constants.specs.Layout.{locks_in}
use Rattle.lrc_named_program.proofs.layout.locks_among.Given as goal

abbrev pub invariant-loop-entry : goal.invariant-loop-entry
invariant-loop-entry l = l.all + locks_in (map entry_of (drop l.entry-index l.declared)) ≡ locks_in (map entry_of l.declared)

-- What is seen are the private names that the parts from one on set.
use Rattle.std.proofs.Common.{drop, map}
use Rattle.lrc_named_tree.specs.View.{named_of}
use Rattle.lrc_named_names.specs.View.{declared_of}
use Rattle.lrc_named_constants.specs.Well.{bytes_of}
use Rattle.lrc_named_written.specs.Privates.{AreSeen}
use Rattle.lrc_named_written.proofs.Seen.{set_by}
use Rattle.lrc_named_written.proofs.privates.private_names.Given as goal

abbrev pub invariant-loop-i : goal.invariant-loop-i
invariant-loop-i l = AreSeen (bytes_of (map named_of l.seen.items)) (set_by (declared_of l.names) (drop l.i l.parts))

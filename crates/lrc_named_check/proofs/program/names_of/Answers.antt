-- What was checked, as what the names mean.
use Rattle.lrc_named_tree.specs.View.{program_of}
use Rattle.lrc_named_check.proofs.Found.{checked_as_names}
use Rattle.lrc_named_check.proofs.program.names_of.Goals as goal

pub returns : goal.returns
returns c = checked_as_names (program_of c.args.program.now) c.check.result c.check.ensures

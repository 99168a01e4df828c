-- By what the name means.
use Rattle.std.proofs.Common.{ap}
use Rattle.lrc_named_statement_faults.specs.Statements.{is_private_sense}
use Rattle.lrc_named_statement_faults.proofs.privates.is_private.Goals as goal

pub returns-in-Private : goal.returns-in-Private
returns-in-Private c = ap is_private_sense c.in-Private.ensures

pub returns-in-Parameter : goal.returns-in-Parameter
returns-in-Parameter c = ap is_private_sense c.in-Parameter.ensures

pub returns-in-Declared : goal.returns-in-Declared
returns-in-Declared c = ap is_private_sense c.in-Declared.ensures

pub returns-in-Unknown : goal.returns-in-Unknown
returns-in-Unknown c = ap is_private_sense c.in-Unknown.ensures

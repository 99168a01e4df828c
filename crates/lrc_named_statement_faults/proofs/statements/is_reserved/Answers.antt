-- The first byte tells.
use Rattle.lrc_named_statement_faults.proofs.Senses.{reserved_none, reserved_some}
use Rattle.lrc_named_statement_faults.proofs.statements.is_reserved.Goals as goal

pub returns-in-Some : goal.returns-in-Some
returns-in-Some c = reserved_some c.args.name.now c.in-Some.first c.in-Some.ensures

pub returns-in-None : goal.returns-in-None
returns-in-None c = reserved_none c.args.name.now c.in-None.ensures

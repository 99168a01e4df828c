-- With an index, or without.
use Rattle.std.proofs.Common.{arith}
use Rattle.lrc_named_tree.specs.View.{named_of}
use Rattle.lrc_named_statement_faults.proofs.Senses.{reserved_with, reserved_without}
use Rattle.lrc_named_statement_faults.proofs.statements.reserved_target.Goals as goal

pub returns-in-empty : goal.returns-in-empty
returns-in-empty c = reserved_without c.args.indices.now (named_of c.args.name) c.reserved.result (omega arith) c.reserved.ensures

pub returns-in-len1-up : goal.returns-in-len1-up
returns-in-len1-up c = reserved_with c.args.indices.now (named_of c.args.name) c.in-len1-up.len_at_least

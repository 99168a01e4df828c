-- What the loop over statements keeps: what is left behind the statements so far.
use Rattle.std.proofs.Common.{◌≡◌, take}
use Rattle.lrc_lines.proofs.Passing.{behind_all}
use Rattle.lrc_lines.proofs.way.+behind.Given as goal

abbrev pub invariant-behind_all-loop-statement : goal.invariant-behind_all-loop-statement
invariant-behind_all-loop-statement l = l.left ≡ behind_all (take l.statement-index l.statements) l.lines

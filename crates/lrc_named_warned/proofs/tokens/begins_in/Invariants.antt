-- Where the statements so far begin.
use Rattle.std.proofs.Common.{◌≡◌, map, take}
use Rattle.lrc_lint_warned.specs.Found.{statement_seen}
use Rattle.lrc_named_warned.specs.Places.{begins_in}
use Rattle.lrc_named_warned.proofs.tokens.begins_in.Given as goal

abbrev pub invariant-loop-statement : goal.invariant-loop-statement
invariant-loop-statement l = l.begins.items ≡ begins_in (map statement_seen (take l.statement-index l.statements))

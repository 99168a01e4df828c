use Rattle.std.proofs.Common.{length}
use Rattle.lrc_lang.proofs.Reading.{IsRead}
use Rattle.lrc_lang.proofs.parser.read_into.Given as goal

abbrev pub invariant-loop-kind : goal.invariant-loop-kind
invariant-loop-kind l = IsRead l.text l.lexer.line l.lexer.rest.now l.state l.limits

abbrev pub decreases-loop-kind : goal.decreases-loop-kind
decreases-loop-kind l = length l.lexer.rest.now

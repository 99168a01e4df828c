use Rattle.std.proofs.Common.{length}
use Rattle.lrc_lang.proofs.Beginnings.{IsMarkedTo}
use Rattle.lrc_lang.proofs.lines.marked.Given as goal

abbrev pub invariant-loop-lines : goal.invariant-loop-lines
invariant-loop-lines l = IsMarkedTo l.text l.lexer.line l.lexer.rest.now l.lines.items l.behind_seam

abbrev pub decreases-loop-lines : goal.decreases-loop-lines
decreases-loop-lines l = length l.lexer.rest.now

use Rattle.std.proofs.Common.{◌≤◌, length}
use Rattle.lrc_lang.specs.Lexer.{Passes}
use Rattle.lrc_lang.specs.Positions.{PassesTo}
use Rattle.lrc_lang.proofs.lexer.Lexer.skip.Given as goal

-- what stands in the rest so far stands in the text
abbrev pub invariant-loop-self : goal.invariant-loop-self
invariant-loop-self l = record {
  places : PassesTo l.fn.self.line l.fn.self.rest.now l.self.line l.self.rest.now;
  passed : Passes l.fn.self.line l.fn.self.rest.now l.self.line l.self.rest.now;
  shorter : length l.self.rest.now ≤ length l.fn.self.rest.now;
}

abbrev pub decreases-loop-self : goal.decreases-loop-self
decreases-loop-self l = length l.self.rest.now

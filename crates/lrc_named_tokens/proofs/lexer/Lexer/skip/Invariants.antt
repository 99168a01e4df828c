use Rattle.std.proofs.Common.{◌≤◌, length}
use Rattle.lrc_named_tokens.specs.Lexer.{Passes}
use Rattle.lrc_named_tokens.specs.View.{place_of}
use Rattle.lrc_named_tokens.proofs.lexer.Lexer.skip.Given as goal

-- what stands in the rest so far stands in the text
abbrev pub invariant-loop-self : goal.invariant-loop-self
invariant-loop-self l = record {
  passed : Passes (place_of l.fn.self.place) l.fn.self.rest.now (place_of l.self.place) l.self.rest.now;
  shorter : length l.self.rest.now ≤ length l.fn.self.rest.now;
}

abbrev pub decreases-loop-self : goal.decreases-loop-self
decreases-loop-self l = length l.self.rest.now

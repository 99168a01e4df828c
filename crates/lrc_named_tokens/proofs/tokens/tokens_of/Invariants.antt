use Rattle.std.proofs.Common.{length, map}
use Rattle.lrc_named_tokens.specs.View.{located_of, place_of}
use Rattle.lrc_named_tokens.proofs.Cut.{IsCutTo}
use Rattle.lrc_named_tokens.proofs.tokens.tokens_of.Given as goal

-- what stands in the rest stands in the text behind the tokens so far
abbrev pub invariant-loop-all : goal.invariant-loop-all
invariant-loop-all l = IsCutTo l.text (map located_of l.all.items) (place_of l.lexer.place) l.lexer.rest.now

abbrev pub decreases-loop-all : goal.decreases-loop-all
decreases-loop-all l = length l.lexer.rest.now

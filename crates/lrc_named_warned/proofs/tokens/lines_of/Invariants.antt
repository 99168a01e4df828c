-- The lines of the tokens so far.
use Rattle.std.proofs.Common.{◌≡◌, map, take}
use Rattle.lrc_named_tokens.specs.View.{located_of}
use Rattle.lrc_named.specs.Lines.{lines_of}
use Rattle.lrc_named_warned.proofs.tokens.lines_of.Given as goal

abbrev pub invariant-loop-token : goal.invariant-loop-token
invariant-loop-token l = l.lines.items ≡ lines_of (map located_of (take l.token-index l.tokens))
